-- What a file collects and declares comes of the items that its module is judged by.
use Rattle.std.proofs.Common.{ℕ, List, [], ◌∷◌, ◌++◌, Some, None, Option}
use Rattle.std.specs.List.{AllByRecursion}
use Rattle.text.proofs.Each.{each-append}
use Rattle.text.specs.Names.{Identifier, Dotted}
use Rattle.model.specs.Tree.{Text, Expr, Exprs, Attribute, Argument, Star, Function, Class, Classes, Module, constant, name, attr, binop, tuple, list, subscript, end, item, pyclass, no_class, add_class, pymodule}
use Rattle.model.specs.Rules.{Item, expr_items, exprs_items, each_items, any_items, attribute_items, argument_items, star_items, function_items, class_items, classes_items, modules_items, module_items}
use Rattle.model.specs.Uses.{Use, Declared, use', if_name, expr_uses, exprs_uses, each_uses, any_uses, attribute_uses, argument_uses, star_uses, function_uses, class_uses, classes_uses, classes_declared, functions_declared, attributes_declared}
use Rattle.rules.specs.Meets.{NameMeets}
use Rattle.references.specs.References.{name_of}
use Rattle.loaded.specs.Laws.{collects, declares}
use Rattle.loaded.proofs.Spelling.{builtins-dotted}

-- what holds of each of two lists together holds of each of them

pub all-front : {A : Type 0} (P : A → Type 0) (xs ys : List A) → AllByRecursion P (xs ++ ys) → AllByRecursion P xs
all-front P [] ys h = tt
all-front P (x ∷ xs) ys h = (h.0, all-front P xs ys h.1)

pub all-behind : {A : Type 0} (P : A → Type 0) (xs ys : List A) → AllByRecursion P (xs ++ ys) → AllByRecursion P ys
all-behind P [] ys h = h
all-behind P (x ∷ xs) ys h = all-behind P xs ys h.1

abbrev Met : List Item → Type 0
Met is = AllByRecursion NameMeets is

met_front : (is js : List Item) → Met (is ++ js) → Met is
met_front is js h = all-front NameMeets is js h

met_behind : (is js : List Item) → Met (is ++ js) → Met js
met_behind is js h = all-behind NameMeets is js h

-- ---- references

abbrev pub UseShaped : Use → Type 0
UseShaped u = Dotted u.from × Dotted u.name

abbrev pub Refers : List Use → Type 0
Refers us = AllByRecursion UseShaped us

both : (us vs : List Use) → Refers us → Refers vs → Refers (us ++ vs)
both us vs h k = each-append UseShaped us vs h k

each : {A : Type 0} (f : A → List Item) (g : A → List Use) → ((x : A) → Met (f x) → Refers (g x)) → (xs : List A) → Met (each_items f xs) → Refers (each_uses g xs)
each f g one [] h = tt
each f g one (x ∷ xs) h =
    both (g x) (each_uses g xs) (one x (met_front (f x) (each_items f xs) h)) (each f g one xs (met_behind (f x) (each_items f xs) h))

any : {A : Type 0} (f : A → List Item) (g : A → List Use) → ((x : A) → Met (f x) → Refers (g x)) → (o : Option A) → Met (any_items f o) → Refers (any_uses g o)
any f g one None h = tt
any f g one (Some x) h = one x h

-- an attribute of a Name refers to it in that module
under : (p : ℕ) (e : Expr) (s : Text) → Met (expr_items e) → Dotted s → Refers (expr_uses e) → Refers (if_name e (λ m. use' p m s ∷ []) (expr_uses e))
under p (constant q c) s h here more = more
under p (name q m) s h here more = ((h.0, here), tt)
under p (attr q e t) s h here more = more
under p (binop q e f) s h here more = more
under p (tuple q es) s h here more = more
under p (list q es) s h here more = more
under p (subscript q e f) s h here more = more

mutual
  expr-refers : (e : Expr) → Met (expr_items e) → Refers (expr_uses e)
  expr-refers (constant p c) h = tt
  expr-refers (name p s) h = ((builtins-dotted, h.0), tt)
  expr-refers (attr p e s) h =
      let inner = all-front NameMeets (expr_items e) _ h in
      under p e s inner (all-behind NameMeets (expr_items e) _ h).0 (expr-refers e inner)
  expr-refers (binop p e f) h =
      both (expr_uses e) (expr_uses f) (expr-refers e (met_front (expr_items e) (expr_items f) h)) (expr-refers f (met_behind (expr_items e) (expr_items f) h))
  expr-refers (tuple p es) h = exprs-refers es h
  expr-refers (list p es) h = exprs-refers es h
  expr-refers (subscript p e f) h =
      both (expr_uses e) (expr_uses f) (expr-refers e (met_front (expr_items e) (expr_items f) h)) (expr-refers f (met_behind (expr_items e) (expr_items f) h))

  exprs-refers : (es : Exprs) → Met (exprs_items es) → Refers (exprs_uses es)
  exprs-refers end h = tt
  exprs-refers (item e es) h =
      both (expr_uses e) (exprs_uses es) (expr-refers e (met_front (expr_items e) (exprs_items es) h)) (exprs-refers es (met_behind (expr_items e) (exprs_items es) h))

any-expr : (o : Option Expr) → Met (any_items expr_items o) → Refers (any_uses expr_uses o)
any-expr o h = any expr_items expr_uses expr-refers o h

attribute-refers : (a : Attribute) → Met (attribute_items a) → Refers (attribute_uses a)
attribute-refers a h = any-expr a.annotation (met_behind (any_items expr_items a.value) (any_items expr_items a.annotation) h.1.1)

argument-refers : (a : Argument) → Met (argument_items a) → Refers (argument_uses a)
argument-refers a h = any-expr a.annotation (met_behind (any_items expr_items a.default) (any_items expr_items a.annotation) h.1)

star-refers : (a : Star) → Met (star_items a) → Refers (star_uses a)
star-refers a h = any-expr a.annotation h.1

arguments_refer : (as' : List Argument) → Met (each_items argument_items as') → Refers (each_uses argument_uses as')
arguments_refer as' h = each argument_items argument_uses argument-refers as' h

star-if_any : (o : Option Star) → Met (any_items star_items o) → Refers (any_uses star_uses o)
star-if_any o h = any star_items star_uses star-refers o h

-- one part after the other
next : (is js : List Item) (us vs : List Use) → (Met is → Refers us) → (Met js → Refers vs) → Met (is ++ js) → Refers (us ++ vs)
next is js us vs f g h = both us vs (f (met_front is js h)) (g (met_behind is js h))

function-refers : (f : Function) → Met (function_items f) → Refers (function_uses f)
function-refers f h =
    next (exprs_items f.decorators) _ (exprs_uses f.decorators) _ (exprs-refers f.decorators)
    (next (each_items argument_items f.positional) _ (each_uses argument_uses f.positional) _ (arguments_refer f.positional)
    (next (each_items argument_items f.regular) _ (each_uses argument_uses f.regular) _ (arguments_refer f.regular)
    (next (any_items star_items f.vararg) _ (any_uses star_uses f.vararg) _ (star-if_any f.vararg)
    (next (each_items argument_items f.keyword) _ (each_uses argument_uses f.keyword) _ (arguments_refer f.keyword)
    (next (any_items star_items f.kwarg) _ (any_uses star_uses f.kwarg) _ (star-if_any f.kwarg) (any-expr f.returns))))))
    h.1

functions_refer : (fs : List Function) → Met (each_items function_items fs) → Refers (each_uses function_uses fs)
functions_refer fs h = each function_items function_uses function-refers fs h

attributes_refer : (as' : List Attribute) → Met (each_items attribute_items as') → Refers (each_uses attribute_uses as')
attributes_refer as' h = each attribute_items attribute_uses attribute-refers as' h

mutual
  class-refers : (c : Class) → Met (class_items c) → Refers (class_uses c)
  class-refers (pyclass p s bases methods attributes decorators inner) h =
      next (exprs_items bases) _ (exprs_uses bases) _ (exprs-refers bases)
      (next (each_items function_items methods) _ (each_uses function_uses methods) _ (functions_refer methods)
      (next (each_items attribute_items attributes) _ (each_uses attribute_uses attributes) _ (attributes_refer attributes)
      (next (exprs_items decorators) (classes_items inner) (exprs_uses decorators) (classes_uses inner) (exprs-refers decorators) (λ k. classes_refer inner k))))
      h.1

  classes_refer : (cs : Classes) → Met (classes_items cs) → Refers (classes_uses cs)
  classes_refer no_class h = tt
  classes_refer (add_class c cs) h =
      both (class_uses c) (classes_uses cs) (class-refers c (met_front (class_items c) (classes_items cs) h)) (classes_refer cs (met_behind (class_items c) (classes_items cs) h))

-- what a module collects
pub module-refers : (m : Module) → Met (module_items m) → Refers (collects m)
module-refers (pymodule p s modules own classes functions attributes) h =
    next (classes_items classes) _ (classes_uses classes) _ (classes_refer classes)
    (next (each_items function_items functions) _ (each_uses function_uses functions) _ (functions_refer functions) (attributes_refer attributes))
    (met_behind (modules_items modules) _ h.1)

-- ---- declared names

abbrev pub Declares : List Declared → Type 0
Declares ds = AllByRecursion (λ d. Identifier (name_of d)) ds

class-declares : (c : Class) → Met (class_items c) → (cs : Classes) → Declares (classes_declared cs) → Declares (classes_declared (add_class c cs))
class-declares (pyclass p s bases methods attributes decorators inner) h cs more = (h.0, more)

classes-declare : (cs : Classes) → Met (classes_items cs) → Declares (classes_declared cs)
classes-declare no_class h = tt
classes-declare (add_class c cs) h =
    class-declares c (met_front (class_items c) (classes_items cs) h) cs (classes-declare cs (met_behind (class_items c) (classes_items cs) h))

functions-declare : (fs : List Function) → Met (each_items function_items fs) → Declares (functions_declared fs)
functions-declare [] h = tt
functions-declare (f ∷ fs) h =
    ((met_front (function_items f) (each_items function_items fs) h).0, functions-declare fs (met_behind (function_items f) (each_items function_items fs) h))

attributes-declare : (as' : List Attribute) → Met (each_items attribute_items as') → Declares (attributes_declared as')
attributes-declare [] h = tt
attributes-declare (a ∷ as') h =
    ((met_front (attribute_items a) (each_items attribute_items as') h).0, attributes-declare as' (met_behind (attribute_items a) (each_items attribute_items as') h))

-- what a module declares
pub module-declares : (m : Module) → Met (module_items m) → Declares (declares m)
module-declares (pymodule p s modules own classes functions attributes) h =
    let behind = met_behind (modules_items modules) _ h.1 in
    let later = met_behind (classes_items classes) _ behind in
    each-append (λ d. Identifier (name_of d)) (classes_declared classes) _
    (classes-declare classes (met_front (classes_items classes) _ behind))
    (each-append (λ d. Identifier (name_of d)) (functions_declared functions) (attributes_declared attributes)
    (functions-declare functions (met_front (each_items function_items functions) (each_items attribute_items attributes) later))
    (attributes-declare attributes (met_behind (each_items function_items functions) (each_items attribute_items attributes) later)))
