-- The references that a file collects, in the form in which a walk adds them to those it has.
use Rattle.std.specs.Prelude.{◌≡◌, ℕ, zero, suc, List, [], ◌∷◌, ◌++◌, Some, None, Option}
use Rattle.std.specs.Borrow.{Bor}
use Rattle.model.specs.Tree.{Text, Expr, Exprs, Attribute, Argument, Star, Function, Class, Classes, constant, name, attr, binop, tuple, list, subscript, end, item, pyclass, no_class, add_class}
use Rattle.model.specs.Uses.{Use, use', Declared, builtins, if_name, class_declared}
use Rattle.model.specs.Read.{place, Head, constant_head, name_head, attr_head, binop_head, tuple_head, list_head, subscript_head}
use Rattle.walk.specs.Total.{head, text, expr}

abbrev mutual
  pub expr_put : Expr → List Use → List Use
  expr_put (constant p c) xs = xs
  expr_put (name p s) xs = xs ++ use' p builtins s ∷ []
  expr_put (attr p e s) xs = if_name e (λ m. xs ++ use' p m s ∷ []) (expr_put e xs)
  expr_put (binop p e f) xs = expr_put f (expr_put e xs)
  expr_put (tuple p es) xs = exprs_put es xs
  expr_put (list p es) xs = exprs_put es xs
  expr_put (subscript p e f) xs = expr_put f (expr_put e xs)

  pub exprs_put : Exprs → List Use → List Use
  exprs_put end xs = xs
  exprs_put (item e es) xs = exprs_put es (expr_put e xs)

abbrev pub each_put : {A S : Type 0} → (A → S → S) → List A → S → S
each_put f [] xs = xs
each_put f (a ∷ as') xs = each_put f as' (f a xs)

abbrev pub any_put : {A S : Type 0} → (A → S → S) → Option A → S → S
any_put f None xs = xs
any_put f (Some a) xs = f a xs

abbrev pub value_put : Option Expr → List Use → List Use
value_put v xs = xs

abbrev pub annotation_put : Option Expr → List Use → List Use
annotation_put = any_put expr_put

abbrev pub pair_put : Option Expr × Option Expr → List Use → List Use
pair_put x xs = annotation_put x.1 (value_put x.0 xs)

abbrev pub attribute_put : Attribute → List Use → List Use
attribute_put a = pair_put (a.value, a.annotation)

abbrev pub argument_put : Argument → List Use → List Use
argument_put a = pair_put (a.default, a.annotation)

abbrev pub star_put : Star → List Use → List Use
star_put a xs = annotation_put a.annotation xs

abbrev pub function_put : Function → List Use → List Use
function_put f xs =
    annotation_put f.returns (any_put star_put f.kwarg (each_put argument_put f.keyword (any_put star_put f.vararg (each_put argument_put f.regular (each_put argument_put f.positional (exprs_put f.decorators xs))))))

abbrev mutual
  pub class_put : Class → List Use → List Use
  class_put (pyclass p s bases methods attributes decorators inner) xs =
      classes_put inner (exprs_put decorators (each_put attribute_put attributes (each_put function_put methods (exprs_put bases xs))))

  pub classes_put : Classes → List Use → List Use
  classes_put no_class xs = xs
  classes_put (add_class c cs) xs = classes_put cs (class_put c xs)

-- the references, and beside them what the file declares
abbrev pub Gathered : Type 0
Gathered = List Use × List Declared

abbrev pub own_put : {A : Type 0} → (A → List Use → List Use) → (A → Declared) → A → Gathered → Gathered
own_put put tell a s = (put a s.0, s.1 ++ tell a ∷ [])

abbrev pub function_declared : Function → Declared
function_declared f = record { place = f.place; name = f.name }

abbrev pub attribute_declared : Attribute → Declared
attribute_declared a = record { place = a.place; name = a.name }

abbrev pub own_classes_put : Classes → Gathered → Gathered
own_classes_put no_class s = s
own_classes_put (add_class c cs) s = own_classes_put cs (own_put class_put class_declared c s)

abbrev pub own_functions_put : List Function → Gathered → Gathered
own_functions_put = each_put (own_put function_put function_declared)

abbrev pub own_attributes_put : List Attribute → Gathered → Gathered
own_attributes_put = each_put (own_put attribute_put attribute_declared)

-- What is left behind an expression, of which nothing else is wanted.
abbrev pub skips : (List ℕ → List ℕ) → ℕ → List ℕ → List ℕ
skips one zero bs = bs
skips one (suc k) bs = skips one k (one bs)

abbrev pub skip_parts : (List ℕ → List ℕ) → Head → List ℕ → List ℕ
skip_parts one (constant_head c) bs = bs
skip_parts one (name_head s) bs = bs
skip_parts one attr_head bs = (text (one bs)).1
skip_parts one binop_head bs = one (one bs)
skip_parts one (tuple_head k) bs = skips one k bs
skip_parts one (list_head k) bs = skips one k bs
skip_parts one subscript_head bs = one (one bs)

unfoldable pub skip : ℕ → List ℕ → List ℕ
skip zero bs = bs
skip (suc d) bs = skip_parts (skip d) (head bs).0 (head bs).1

-- a Name was found next and passed, or something else was and is still to be read
abbrev pub Bare : Option (Bor Text) → ℕ → List ℕ → List ℕ → Type 0
Bare (Some s) d bs rest = (n : ℕ) → expr n d bs ≡ (name (place n bs) s.now, rest)
Bare None d bs rest = (rest ≡ bs) × ((n : ℕ) (f : Text → List Use) (other : List Use) → if_name (expr n d bs).0 f other ≡ other)
