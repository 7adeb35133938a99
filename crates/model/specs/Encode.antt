-- The bytes of a tree. Numbers are 16 bits, the high byte first; a text is its length and its bytes; a list field is a count
-- and its items, and an empty one is not there; a record is its map of fields, its name, and the fields, lowest bit first.
use Rattle.std.specs.Prelude.{ℕ, zero, suc, ◌+◌, ◌*◌, ◌/◌, ◌%◌, Bool, true, false, cond, List, [], ◌∷◌, ◌++◌, length, is_some, Some, None, Option}
use Rattle.model.specs.Tree.{Text, Constant, Expr, Exprs, Attribute, Argument, Star, Function, Class, Classes, Module, Modules, py_none, py_false, py_true, int, float, str, ellipsis, constant, name, attr, binop, tuple, list, subscript, end, item, pyclass, no_class, add_class, pymodule, no_module, add_module}

abbrev pub number : ℕ → List ℕ
number k = k / 256 ∷ k % 256 ∷ []

abbrev pub text : Text → List ℕ
text s = number (length s) ++ s

-- the number whose bits, the lowest first, are these
abbrev pub bits : List Bool → ℕ
bits [] = 0
bits (b ∷ bs) = cond b 1 0 + 2 * bits bs

-- a record's beginning: which of its fields stand, and its name
abbrev pub header : List Bool → Text → List ℕ
header fields s = number (bits fields) ++ text s

-- a list field: nothing, or a count and the items' bytes
abbrev pub field : ℕ → List ℕ → List ℕ
field zero bs = []
field (suc k) bs = number (suc k) ++ bs

abbrev pub stands : ℕ → Bool
stands zero = false
stands (suc k) = true

abbrev pub each : {A : Type 0} → (A → List ℕ) → List A → List ℕ
each f [] = []
each f (x ∷ xs) = f x ++ each f xs

abbrev pub any : {A : Type 0} → (A → List ℕ) → Option A → List ℕ
any f None = []
any f (Some x) = f x

abbrev pub exprs_count : Exprs → ℕ
exprs_count end = 0
exprs_count (item e es) = suc (exprs_count es)

abbrev pub classes_count : Classes → ℕ
classes_count no_class = 0
classes_count (add_class c cs) = suc (classes_count cs)

abbrev pub modules_count : Modules → ℕ
modules_count no_module = 0
modules_count (add_module m ms) = suc (modules_count ms)

abbrev pub constant_bytes : Constant → List ℕ
constant_bytes py_none = 0 ∷ []
constant_bytes py_false = 1 ∷ []
constant_bytes py_true = 2 ∷ []
constant_bytes (int s) = 3 ∷ text s
constant_bytes (float s) = 4 ∷ text s
constant_bytes (str s) = 5 ∷ text s
constant_bytes ellipsis = 6 ∷ []

abbrev mutual
  pub expr_bytes : Expr → List ℕ
  expr_bytes (constant p c) = constant_bytes c
  expr_bytes (name p s) = 7 ∷ text s
  expr_bytes (attr p e s) = 8 ∷ expr_bytes e ++ text s
  expr_bytes (binop p e f) = 9 ∷ expr_bytes e ++ expr_bytes f
  expr_bytes (tuple p es) = 10 ∷ number (exprs_count es) ++ exprs_bytes es
  expr_bytes (list p es) = 11 ∷ number (exprs_count es) ++ exprs_bytes es
  expr_bytes (subscript p e f) = 12 ∷ expr_bytes e ++ expr_bytes f

  pub exprs_bytes : Exprs → List ℕ
  exprs_bytes end = []
  exprs_bytes (item e es) = expr_bytes e ++ exprs_bytes es

abbrev pub exprs_field : Exprs → List ℕ
exprs_field es = field (exprs_count es) (exprs_bytes es)

abbrev pub list_field : {A : Type 0} → (A → List ℕ) → List A → List ℕ
list_field f xs = field (length xs) (each f xs)

abbrev pub attribute_bytes : Attribute → List ℕ
attribute_bytes a =
    header (is_some a.value ∷ is_some a.annotation ∷ []) a.name ++ (any expr_bytes a.value ++ any expr_bytes a.annotation)

abbrev pub argument_bytes : Argument → List ℕ
argument_bytes a =
    header (is_some a.default ∷ is_some a.annotation ∷ []) a.name ++ (any expr_bytes a.default ++ any expr_bytes a.annotation)

abbrev pub star_bytes : Star → List ℕ
star_bytes a = header (false ∷ is_some a.annotation ∷ []) a.name ++ any expr_bytes a.annotation

abbrev pub function_bytes : Function → List ℕ
function_bytes f =
    header (stands (exprs_count f.decorators) ∷ stands (length f.positional) ∷ stands (length f.regular) ∷ is_some f.vararg ∷ stands (length f.keyword) ∷ is_some f.kwarg ∷ is_some f.returns ∷ []) f.name
    ++ (exprs_field f.decorators ++ (list_field argument_bytes f.positional ++ (list_field argument_bytes f.regular ++ (any star_bytes f.vararg ++ (list_field argument_bytes f.keyword ++ (any star_bytes f.kwarg ++ any expr_bytes f.returns))))))

abbrev mutual
  pub class_bytes : Class → List ℕ
  class_bytes (pyclass p s bases methods attributes decorators inner) =
      header (stands (exprs_count bases) ∷ stands (length methods) ∷ stands (length attributes) ∷ stands (exprs_count decorators) ∷ stands (classes_count inner) ∷ []) s
      ++ (exprs_field bases ++ (list_field function_bytes methods ++ (list_field attribute_bytes attributes ++ (exprs_field decorators ++ field (classes_count inner) (classes_bytes inner)))))

  pub classes_bytes : Classes → List ℕ
  classes_bytes no_class = []
  classes_bytes (add_class c cs) = class_bytes c ++ classes_bytes cs

-- a module's own declarations: what follows its submodules
abbrev pub own_bytes : Classes → List Function → List Attribute → List ℕ
own_bytes classes functions attributes =
    field (classes_count classes) (classes_bytes classes) ++ (list_field function_bytes functions ++ list_field attribute_bytes attributes)

abbrev mutual
  pub module_bytes : Module → List ℕ
  module_bytes (pymodule p s modules own classes functions attributes) =
      header (stands (modules_count modules) ∷ stands (classes_count classes) ∷ stands (length functions) ∷ stands (length attributes) ∷ []) s
      ++ (field (modules_count modules) (modules_bytes modules) ++ own_bytes classes functions attributes)

  pub modules_bytes : Modules → List ℕ
  modules_bytes no_module = []
  modules_bytes (add_module m ms) = module_bytes m ++ modules_bytes ms

-- a model: its version byte, and one module
abbrev pub encode : Module → List ℕ
encode m = 1 ∷ module_bytes m
