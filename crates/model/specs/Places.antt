-- A tree's places are right: each record and expression carries the offset at which its encoding starts, when the tree's own
-- encoding starts at p. Parts lie behind one another in the order in which they are written.
use Rattle.std.specs.Prelude.{◌≡◌, ℕ, ◌+◌, List, [], ◌∷◌, length, Some, None, Option}
use Rattle.model.specs.Tree.{Expr, Exprs, Attribute, Argument, Star, Function, Class, Classes, Module, Modules, constant, name, attr, binop, tuple, list, subscript, end, item, pyclass, no_class, add_class, pymodule, no_module, add_module}
use Rattle.model.specs.Encode.{field, any, expr_bytes, exprs_field, list_field, attribute_bytes, argument_bytes, star_bytes, function_bytes, class_bytes, classes_bytes, classes_count, module_bytes, modules_bytes, modules_count}

-- what comes behind these bytes starts where they end
abbrev pub behind : ℕ → List ℕ → (ℕ → Type 0) → Type 0
behind p bs rest = rest (p + length bs)

-- the first field of a record with this name at p
abbrev pub first_field : ℕ → List ℕ → ℕ
first_field p s = p + 4 + length s

-- the first item of a list field at p
abbrev pub first_item : ℕ → ℕ
first_item p = p + 2

abbrev pub each_at : {A : Type 0} → (A → ℕ → Type 0) → (A → List ℕ) → List A → ℕ → Type 0
each_at At bytes [] p = Unit {0}
each_at At bytes (x ∷ xs) p = At x p × behind p (bytes x) (each_at At bytes xs)

abbrev pub any_at : {A : Type 0} → (A → ℕ → Type 0) → Option A → ℕ → Type 0
any_at At None p = Unit {0}
any_at At (Some x) p = At x p

abbrev mutual
  pub expr_at : Expr → ℕ → Type 0
  expr_at (constant q c) p = q ≡ p
  expr_at (name q s) p = q ≡ p
  expr_at (attr q e s) p = (q ≡ p) × expr_at e (p + 1)
  expr_at (binop q e f) p = (q ≡ p) × (expr_at e (p + 1) × behind (p + 1) (expr_bytes e) (expr_at f))
  expr_at (tuple q es) p = (q ≡ p) × exprs_at es (p + 3)
  expr_at (list q es) p = (q ≡ p) × exprs_at es (p + 3)
  expr_at (subscript q e f) p = (q ≡ p) × (expr_at e (p + 1) × behind (p + 1) (expr_bytes e) (expr_at f))

  pub exprs_at : Exprs → ℕ → Type 0
  exprs_at end p = Unit {0}
  exprs_at (item e es) p = expr_at e p × behind p (expr_bytes e) (exprs_at es)

abbrev pub attribute_at : Attribute → ℕ → Type 0
attribute_at a p =
    let q : ℕ = first_field p a.name in
    (a.place ≡ p) × (any_at expr_at a.value q × behind q (any expr_bytes a.value) (any_at expr_at a.annotation))

abbrev pub argument_at : Argument → ℕ → Type 0
argument_at a p =
    let q : ℕ = first_field p a.name in
    (a.place ≡ p) × (any_at expr_at a.default q × behind q (any expr_bytes a.default) (any_at expr_at a.annotation))

abbrev pub star_at : Star → ℕ → Type 0
star_at a p = (a.place ≡ p) × any_at expr_at a.annotation (first_field p a.name)

abbrev pub exprs_field_at : Exprs → ℕ → Type 0
exprs_field_at es p = exprs_at es (first_item p)

abbrev pub list_field_at : {A : Type 0} → (A → ℕ → Type 0) → (A → List ℕ) → List A → ℕ → Type 0
list_field_at At bytes xs p = each_at At bytes xs (first_item p)

abbrev pub function_at : Function → ℕ → Type 0
function_at f p =
    let q : ℕ = first_field p f.name in
    (f.place ≡ p) × (exprs_field_at f.decorators q × behind q (exprs_field f.decorators) λ r. list_field_at argument_at argument_bytes f.positional r × behind r (list_field argument_bytes f.positional) λ s. list_field_at argument_at argument_bytes f.regular s × behind s (list_field argument_bytes f.regular) λ t. any_at star_at f.vararg t × behind t (any star_bytes f.vararg) λ u. list_field_at argument_at argument_bytes f.keyword u × behind u (list_field argument_bytes f.keyword) λ v. any_at star_at f.kwarg v × behind v (any star_bytes f.kwarg) (any_at expr_at f.returns))

abbrev mutual
  pub class_at : Class → ℕ → Type 0
  class_at (pyclass place s bases methods attributes decorators inner) p =
      let q : ℕ = first_field p s in
      (place ≡ p) × (exprs_field_at bases q × behind q (exprs_field bases) λ r. list_field_at function_at function_bytes methods r × behind r (list_field function_bytes methods) λ t. list_field_at attribute_at attribute_bytes attributes t × behind t (list_field attribute_bytes attributes) λ u. exprs_field_at decorators u × behind u (exprs_field decorators) λ v. classes_at inner (first_item v))

  pub classes_at : Classes → ℕ → Type 0
  classes_at no_class p = Unit {0}
  classes_at (add_class c cs) p = class_at c p × behind p (class_bytes c) (classes_at cs)

-- a module's own declarations, the first of their fields at p
abbrev pub own_at : Classes → List Function → List Attribute → ℕ → Type 0
own_at classes functions attributes p =
    classes_at classes (first_item p) × behind p (field (classes_count classes) (classes_bytes classes)) λ q. list_field_at function_at function_bytes functions q × behind q (list_field function_bytes functions) (list_field_at attribute_at attribute_bytes attributes)

abbrev mutual
  pub module_at : Module → ℕ → Type 0
  module_at (pymodule place s modules own classes functions attributes) p =
      let q : ℕ = first_field p s in
      (place ≡ p) × (modules_at modules (first_item q) × behind q (field (modules_count modules) (modules_bytes modules)) λ r. (own ≡ r) × own_at classes functions attributes r)

  pub modules_at : Modules → ℕ → Type 0
  modules_at no_module p = Unit {0}
  modules_at (add_module m ms) p = module_at m p × behind p (module_bytes m) (modules_at ms)
