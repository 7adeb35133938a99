-- The names that a file declares and the references that it collects, each with its place, in the order of their places.
use Rattle.std.specs.Prelude.{ℕ, List, [], ◌∷◌, ◌++◌, Some, None, codes, Option}
use Rattle.model.specs.Tree.{Text, Expr, Exprs, Attribute, Argument, Star, Function, Class, Classes, constant, name, attr, binop, tuple, list, subscript, end, item, pyclass, no_class, add_class}

-- a reference, and the place of the expression that is it: a Name n that is not directly under an Attribute refers to n in
-- builtins, and an Attribute a of a Name m to a in m
pub record Use : Type 0 where
  pub place : ℕ
  pub from : Text
  pub name : Text

abbrev pub use' : ℕ → Text → Text → Use
use' p m s = record { place = p; from = m; name = s }

abbrev pub builtins : Text
builtins = codes "builtins"

-- f of the text of a bare Name, and otherwise the other
abbrev pub if_name : {A : Type 0} → Expr → (Text → A) → A → A
if_name (constant p c) f other = other
if_name (name p s) f other = f s
if_name (attr p e s) f other = other
if_name (binop p e g) f other = other
if_name (tuple p es) f other = other
if_name (list p es) f other = other
if_name (subscript p e g) f other = other

abbrev mutual
  pub expr_uses : Expr → List Use
  expr_uses (constant p c) = []
  expr_uses (name p s) = use' p builtins s ∷ []
  expr_uses (attr p e s) = if_name e (λ m. use' p m s ∷ []) (expr_uses e)
  expr_uses (binop p e f) = expr_uses e ++ expr_uses f
  expr_uses (tuple p es) = exprs_uses es
  expr_uses (list p es) = exprs_uses es
  expr_uses (subscript p e f) = expr_uses e ++ expr_uses f

  pub exprs_uses : Exprs → List Use
  exprs_uses end = []
  exprs_uses (item e es) = expr_uses e ++ exprs_uses es

abbrev pub each_uses : {A : Type 0} → (A → List Use) → List A → List Use
each_uses f [] = []
each_uses f (x ∷ xs) = f x ++ each_uses f xs

abbrev pub any_uses : {A : Type 0} → (A → List Use) → Option A → List Use
any_uses f None = []
any_uses f (Some x) = f x

-- Which positions are collected: annotations, bases, decorators and returns; values and defaults are not.
abbrev pub value_uses : Option Expr → List Use
value_uses v = []

abbrev pub annotation_uses : Option Expr → List Use
annotation_uses a = any_uses expr_uses a

abbrev pub attribute_uses : Attribute → List Use
attribute_uses a = value_uses a.value ++ annotation_uses a.annotation

abbrev pub argument_uses : Argument → List Use
argument_uses a = value_uses a.default ++ annotation_uses a.annotation

abbrev pub star_uses : Star → List Use
star_uses a = annotation_uses a.annotation

abbrev pub function_uses : Function → List Use
function_uses f =
    exprs_uses f.decorators ++ (each_uses argument_uses f.positional ++ (each_uses argument_uses f.regular ++ (any_uses star_uses f.vararg ++ (each_uses argument_uses f.keyword ++ (any_uses star_uses f.kwarg ++ annotation_uses f.returns)))))

abbrev mutual
  pub class_uses : Class → List Use
  class_uses (pyclass p s bases methods attributes decorators inner) =
      exprs_uses bases ++ (each_uses function_uses methods ++ (each_uses attribute_uses attributes ++ (exprs_uses decorators ++ classes_uses inner)))

  pub classes_uses : Classes → List Use
  classes_uses no_class = []
  classes_uses (add_class c cs) = class_uses c ++ classes_uses cs

-- what a file collects
abbrev pub collected : Classes → List Function → List Attribute → List Use
collected classes functions attributes =
    classes_uses classes ++ (each_uses function_uses functions ++ each_uses attribute_uses attributes)

-- a declared name and the place of the record that declares it
pub record Declared : Type 0 where
  pub place : ℕ
  pub name : Text

abbrev pub class_declared : Class → Declared
class_declared (pyclass p s bases methods attributes decorators inner) = record { place = p; name = s }

abbrev pub classes_declared : Classes → List Declared
classes_declared no_class = []
classes_declared (add_class c cs) = class_declared c ∷ classes_declared cs

abbrev pub functions_declared : List Function → List Declared
functions_declared [] = []
functions_declared (f ∷ fs) = record { place = f.place; name = f.name } ∷ functions_declared fs

abbrev pub attributes_declared : List Attribute → List Declared
attributes_declared [] = []
attributes_declared (a ∷ as') = record { place = a.place; name = a.name } ∷ attributes_declared as'

-- what a file declares: its classes, functions and attributes
abbrev pub declarations : Classes → List Function → List Attribute → List Declared
declarations classes functions attributes =
    classes_declared classes ++ (functions_declared functions ++ attributes_declared attributes)
