-- What the walk puts, one after another, is what the file collects and declares.
use Rattle.std.proofs.Common.{◌≡◌, ℕ, Bool, List, [], ◌∷◌, ◌++◌, length, drop, Some, None, Option, sym, refl, ap, ◌∙◌, append_assoc, append-nil}
use Rattle.model.specs.Tree.{Text, Expr, Exprs, Attribute, Argument, Star, Function, Class, Classes, constant, name, attr, binop, tuple, list, subscript, end, item, pyclass, no_class, add_class}
use Rattle.model.specs.Uses.{Use, use', Declared, if_name, expr_uses, exprs_uses, each_uses, any_uses, value_uses, annotation_uses, attribute_uses, argument_uses, star_uses, function_uses, class_uses, classes_uses, collected, classes_declared, functions_declared, attributes_declared, declarations}
use Rattle.model.specs.Read.{bit}
use Rattle.model.specs.declared.files.File.{File}
use Rattle.model.specs.declared.uses.Declared.{Declared as DeclaredOf}
use Rattle.walk.specs.declared.walker.Walker.{Walker}
use Rattle.walk.specs.Walks.{Owns, left, gathered}
use Rattle.walk.specs.Total.{number, classes, functions, attributes, own, own_in}
use Rattle.walk.specs.Puts.{expr_put, exprs_put, each_put, any_put, value_put, annotation_put, attribute_put, argument_put, star_put, function_put, class_put, classes_put, Gathered, own_classes_put, own_functions_put, own_attributes_put}
use Rattle.walk.specs.Collects.{uses_in, declared_in}

-- p puts u behind what is there
abbrev Adds : (List Use → List Use) → List Use → Type 0
Adds p u = (xs : List Use) → p xs ≡ xs ++ u

nothing : (xs : List Use) → xs ≡ xs ++ []
nothing xs = sym (append-nil xs)

both : (p q : List Use → List Use) (u v : List Use) → Adds p u → Adds q v → (xs : List Use) → q (p xs) ≡ xs ++ (u ++ v)
both p q u v a b xs = b (p xs) ∙ (ap (λ l. l ++ v) (a xs) ∙ append_assoc xs u v)

if_name_lem : (e : Expr) (xs : List Use) (f : Text → List Use) (o u : List Use) → o ≡ xs ++ u → if_name e (λ m. xs ++ f m) o ≡ xs ++ if_name e f u
if_name_lem (constant p c) xs f o u h = h
if_name_lem (name p s) xs f o u h = refl
if_name_lem (attr p e s) xs f o u h = h
if_name_lem (binop p e g) xs f o u h = h
if_name_lem (tuple p es) xs f o u h = h
if_name_lem (list p es) xs f o u h = h
if_name_lem (subscript p e g) xs f o u h = h

mutual
  expr_adds : (e : Expr) (xs : List Use) → expr_put e xs ≡ xs ++ expr_uses e
  expr_adds (constant p c) xs = nothing xs
  expr_adds (name p s) xs = refl
  expr_adds (attr p e s) xs = if_name_lem e xs (λ m. use' p m s ∷ []) (expr_put e xs) (expr_uses e) (expr_adds e xs)
  expr_adds (binop p e f) xs = both (expr_put e) (expr_put f) (expr_uses e) (expr_uses f) (expr_adds e) (expr_adds f) xs
  expr_adds (tuple p es) xs = exprs_adds es xs
  expr_adds (list p es) xs = exprs_adds es xs
  expr_adds (subscript p e f) xs = both (expr_put e) (expr_put f) (expr_uses e) (expr_uses f) (expr_adds e) (expr_adds f) xs

  exprs_adds : (es : Exprs) (xs : List Use) → exprs_put es xs ≡ xs ++ exprs_uses es
  exprs_adds end xs = nothing xs
  exprs_adds (item e es) xs = both (expr_put e) (exprs_put es) (expr_uses e) (exprs_uses es) (expr_adds e) (exprs_adds es) xs

each_adds : {A : Type 0} (put : A → List Use → List Use) (uses : A → List Use) → ((a : A) → Adds (put a) (uses a)) → (as' : List A) → Adds (each_put put as') (each_uses uses as')
each_adds put uses h [] xs = nothing xs
each_adds put uses h (a ∷ as') xs = both (put a) (each_put put as') (uses a) (each_uses uses as') (h a) (each_adds put uses h as') xs

any_adds : {A : Type 0} (put : A → List Use → List Use) (uses : A → List Use) → ((a : A) → Adds (put a) (uses a)) → (o : Option A) → Adds (any_put put o) (any_uses uses o)
any_adds put uses h None xs = nothing xs
any_adds put uses h (Some a) xs = h a xs

-- which positions are collected
value_adds : (o : Option Expr) → Adds (value_put o) (value_uses o)
value_adds o = nothing

annotation_adds : (o : Option Expr) → Adds (annotation_put o) (annotation_uses o)
annotation_adds = any_adds expr_put expr_uses expr_adds

attribute_adds : (a : Attribute) → Adds (attribute_put a) (attribute_uses a)
attribute_adds a = both _ _ _ _ (value_adds a.value) (annotation_adds a.annotation)

argument_adds : (a : Argument) → Adds (argument_put a) (argument_uses a)
argument_adds a = both _ _ _ _ (value_adds a.default) (annotation_adds a.annotation)

star_adds : (a : Star) → Adds (star_put a) (star_uses a)
star_adds a = annotation_adds a.annotation

arguments_adds : (as' : List Argument) → Adds (each_put argument_put as') (each_uses argument_uses as')
arguments_adds = each_adds argument_put argument_uses argument_adds

stars_adds : (o : Option Star) → Adds (any_put star_put o) (any_uses star_uses o)
stars_adds = any_adds star_put star_uses star_adds

function_adds : (f : Function) → Adds (function_put f) (function_uses f)
function_adds f =
    both _ _ _ _ (exprs_adds f.decorators) (both _ _ _ _ (arguments_adds f.positional) (both _ _ _ _ (arguments_adds f.regular) (both _ _ _ _ (stars_adds f.vararg) (both _ _ _ _ (arguments_adds f.keyword) (both _ _ _ _ (stars_adds f.kwarg) (annotation_adds f.returns))))))

functions_adds : (fs : List Function) → Adds (each_put function_put fs) (each_uses function_uses fs)
functions_adds = each_adds function_put function_uses function_adds

attributes_adds : (as' : List Attribute) → Adds (each_put attribute_put as') (each_uses attribute_uses as')
attributes_adds = each_adds attribute_put attribute_uses attribute_adds

mutual
  class_adds : (c : Class) (xs : List Use) → class_put c xs ≡ xs ++ class_uses c
  class_adds (pyclass p s bases methods attrs decorators inner) xs =
      both _ _ _ _ (exprs_adds bases) (both _ _ _ _ (functions_adds methods) (both _ _ _ _ (attributes_adds attrs) (both _ _ _ _ (exprs_adds decorators) (classes_adds inner)))) xs

  classes_adds : (cs : Classes) (xs : List Use) → classes_put cs xs ≡ xs ++ classes_uses cs
  classes_adds no_class xs = nothing xs
  classes_adds (add_class c cs) xs = both (class_put c) (classes_put cs) (class_uses c) (classes_uses cs) (class_adds c) (classes_adds cs) xs

-- and beside the references what is declared
one_more : (ds es : List Declared) (d : Declared) → (ds ++ d ∷ []) ++ es ≡ ds ++ d ∷ es
one_more ds es d = append_assoc ds (d ∷ []) es

classes-own : (cs : Classes) (us : List Use) (ds : List Declared) → own_classes_put cs (us, ds) ≡ (classes_put cs us, ds ++ classes_declared cs)
classes-own no_class us ds = ap (λ l. (us, l)) (sym (append-nil ds))
classes-own (add_class c cs) us ds = classes-own cs (class_put c us) _ ∙ ap (λ l. (classes_put cs (class_put c us), l)) (one_more ds (classes_declared cs) _)

functions-own : (fs : List Function) (us : List Use) (ds : List Declared) → own_functions_put fs (us, ds) ≡ (each_put function_put fs us, ds ++ functions_declared fs)
functions-own [] us ds = ap (λ l. (us, l)) (sym (append-nil ds))
functions-own (f ∷ fs) us ds = functions-own fs (function_put f us) _ ∙ ap (λ l. (each_put function_put fs (function_put f us), l)) (one_more ds (functions_declared fs) _)

attributes-own : (as' : List Attribute) (us : List Use) (ds : List Declared) → own_attributes_put as' (us, ds) ≡ (each_put attribute_put as' us, ds ++ attributes_declared as')
attributes-own [] us ds = ap (λ l. (us, l)) (sym (append-nil ds))
attributes-own (a ∷ as') us ds = attributes-own as' (attribute_put a us) _ ∙ ap (λ l. (each_put attribute_put as' (attribute_put a us), l)) (one_more ds (attributes_declared as') _)

all_own : (cs : Classes) (fs : List Function) (as' : List Attribute) → own_attributes_put as' (own_functions_put fs (own_classes_put cs ([], []))) ≡ (collected cs fs as', declarations cs fs as')
all_own cs fs as' =
    let uses : each_put attribute_put as' (each_put function_put fs (classes_put cs [])) ≡ collected cs fs as' = both (classes_put cs) _ _ _ (classes_adds cs) (both (each_put function_put fs) (each_put attribute_put as') _ _ (functions_adds fs) (attributes_adds as')) [] in
    ap (λ (s : Gathered). own_attributes_put as' (own_functions_put fs s)) (classes-own cs [] [])
    ∙ (ap (λ (s : Gathered). own_attributes_put as' s) (functions-own fs (classes_put cs []) (classes_declared cs))
    ∙ (attributes-own as' (each_put function_put fs (classes_put cs [])) (classes_declared cs ++ functions_declared fs)
    ∙ (λ i. (uses i, append_assoc (classes_declared cs) (functions_declared fs) (attributes_declared as') i))))

-- the three fields of a module, one after another
pub file-own : (n d m : ℕ) (bs r s : List ℕ) (x y z : Gathered) → r ≡ (classes n d (bit m 2) bs).1 → x ≡ own_classes_put (classes n d (bit m 2) bs).0 ([], []) → s ≡ (functions n d (bit m 4) r).1 → y ≡ own_functions_put (functions n d (bit m 4) r).0 x → z ≡ own_attributes_put (attributes n d (bit m 8) s).0 y → z ≡ (uses_in (own n d m bs).0, declared_in (own n d m bs).0)
file-own n d m bs r s x y z er ex es ey ez =
    ez ∙ ((λ i. own_attributes_put (attributes n d (bit m 8) ((es ∙ ap (λ l. (functions n d (bit m 4) l).1) er) i)).0 ((ey ∙ (λ j. own_functions_put (functions n d (bit m 4) (er j)).0 (ex j))) i)) ∙ all_own (own n d m bs).0.classes (own n d m bs).0.functions (own n d m bs).0.attributes)

pub collects : (bs : List ℕ) (f : File) (head : List ℕ) (m : ℕ) (b c d : Bool) (w0 w1 w2 w3 : Walker) (d0 d1 d2 d3 : List DeclaredOf) → head ≡ drop f.place bs → m ≡ (number head).0 → left w0 ≡ drop f.own bs → w0.at.end ≡ length bs → gathered w0 d0 ≡ ([], []) → b ≡ bit m 2 → c ≡ bit m 4 → d ≡ bit m 8 → Owns own_classes_put (classes w0.at.end 64 b) w0 w1 d0 d1 → Owns own_functions_put (functions w1.at.end 64 c) w1 w2 d1 d2 → Owns own_attributes_put (attributes w2.at.end 64 d) w2 w3 d2 d3 → gathered w3 d3 ≡ (uses_in (own_in bs f), declared_in (own_in bs f))
collects bs f head m b c d w0 w1 w2 w3 d0 d1 d2 d3 eh em el en eg eb ec ed x y z =
    let n : ℕ = length bs in
    let map : m ≡ (number (drop f.place bs)).0 = em ∙ ap (λ (l : List ℕ). (number l).0) eh in
    let eb' : b ≡ bit (number (drop f.place bs)).0 2 = eb ∙ ap (λ (k : ℕ). bit k 2) map in
    let ec' : c ≡ bit (number (drop f.place bs)).0 4 = ec ∙ ap (λ (k : ℕ). bit k 4) map in
    let ed' : d ≡ bit (number (drop f.place bs)).0 8 = ed ∙ ap (λ (k : ℕ). bit k 8) map in
    let en1 : w1.at.end ≡ n = x.end ∙ en in
    let en2 : w2.at.end ≡ n = y.end ∙ en1 in
    file-own n 64 (number (drop f.place bs)).0 (drop f.own bs) (left w1) (left w2) (gathered w1 d1) (gathered w2 d2) (gathered w3 d3)
    (x.rest ∙ (λ i. (classes (en i) 64 (eb' i) (el i)).1))
    (x.state ∙ (λ i. own_classes_put (classes (en i) 64 (eb' i) (el i)).0 (eg i)))
    (y.rest ∙ (λ i. (functions (en1 i) 64 (ec' i) (left w1)).1))
    (y.state ∙ (λ i. own_functions_put (functions (en1 i) 64 (ec' i) (left w1)).0 (gathered w1 d1)))
    (z.state ∙ (λ i. own_attributes_put (attributes (en2 i) 64 (ed' i) (left w2)).0 (gathered w2 d2)))
