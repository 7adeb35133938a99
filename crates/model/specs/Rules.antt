-- The rules on names and values that each record and expression meets or breaks by itself, whatever stands around it.
use Rattle.std.specs.Prelude.{ℕ, min, Bool, true, false, ◌||◌, List, [], ◌∷◌, ◌++◌, is_some, Some, None, Option}
use Rattle.text.specs.Names.{identifier, dotted}
use Rattle.text.specs.Numbers.{int as is_int_of, float as is_float}
use Rattle.text.specs.Utf8.{utf8}
use Rattle.model.specs.Tree.{Text, Constant, Expr, Exprs, Attribute, Argument, Star, Function, Class, Classes, Module, Modules, py_none, py_false, py_true, int, float, str, ellipsis, constant, name, attr, binop, tuple, list, subscript, end, item, pyclass, no_class, add_class, pymodule, no_module, add_module}

-- What there is to judge in a tree, each with the place of the record or expression that it belongs to.
pub data Item : Type 0 where
  -- a record's name
  record_name : ℕ → Text → Item
  -- the text of a Name or of an Attribute expression
  dotted_name : ℕ → Text → Item
  -- a constant
  literal : ℕ → Constant → Item
  -- an attribute, and whether it has a value or an annotation
  declared : ℕ → Bool → Item

abbrev mutual
  pub expr_items : Expr → List Item
  expr_items (constant p c) = literal p c ∷ []
  expr_items (name p s) = dotted_name p s ∷ []
  expr_items (attr p e s) = expr_items e ++ dotted_name p s ∷ []
  expr_items (binop p e f) = expr_items e ++ expr_items f
  expr_items (tuple p es) = exprs_items es
  expr_items (list p es) = exprs_items es
  expr_items (subscript p e f) = expr_items e ++ expr_items f

  pub exprs_items : Exprs → List Item
  exprs_items end = []
  exprs_items (item e es) = expr_items e ++ exprs_items es

abbrev pub each_items : {A : Type 0} → (A → List Item) → List A → List Item
each_items f [] = []
each_items f (x ∷ xs) = f x ++ each_items f xs

abbrev pub any_items : {A : Type 0} → (A → List Item) → Option A → List Item
any_items f None = []
any_items f (Some x) = f x

abbrev pub attribute_items : Attribute → List Item
attribute_items a =
    record_name a.place a.name ∷ declared a.place (is_some a.value || is_some a.annotation) ∷ (any_items expr_items a.value ++ any_items expr_items a.annotation)

abbrev pub argument_items : Argument → List Item
argument_items a =
    record_name a.place a.name ∷ (any_items expr_items a.default ++ any_items expr_items a.annotation)

abbrev pub star_items : Star → List Item
star_items a = record_name a.place a.name ∷ any_items expr_items a.annotation

abbrev pub function_items : Function → List Item
function_items f =
    record_name f.place f.name ∷ (exprs_items f.decorators ++ (each_items argument_items f.positional ++ (each_items argument_items f.regular ++ (any_items star_items f.vararg ++ (each_items argument_items f.keyword ++ (any_items star_items f.kwarg ++ any_items expr_items f.returns))))))

abbrev mutual
  pub class_items : Class → List Item
  class_items (pyclass p s bases methods attributes decorators inner) =
      record_name p s ∷ (exprs_items bases ++ (each_items function_items methods ++ (each_items attribute_items attributes ++ (exprs_items decorators ++ classes_items inner))))

  pub classes_items : Classes → List Item
  classes_items no_class = []
  classes_items (add_class c cs) = class_items c ++ classes_items cs

abbrev mutual
  pub module_items : Module → List Item
  module_items (pymodule p s modules own classes functions attributes) =
      record_name p s ∷ (modules_items modules ++ (classes_items classes ++ (each_items function_items functions ++ each_items attribute_items attributes)))

  pub modules_items : Modules → List Item
  modules_items no_module = []
  modules_items (add_module m ms) = module_items m ++ modules_items ms

-- an Int, a Float or a Str that meets its rule; the other constants have no text
abbrev pub well_formed : Constant → Bool
well_formed py_none = true
well_formed py_false = true
well_formed py_true = true
well_formed (int s) = is_int_of s
well_formed (float s) = is_float s
well_formed (str s) = utf8 s
well_formed ellipsis = true

-- where an item breaks the rule on names, that on values, that on attributes
abbrev pub unless : Bool → ℕ → List ℕ
unless true p = []
unless false p = p ∷ []

abbrev pub broken_name : Item → List ℕ
broken_name (record_name p s) = unless (identifier s) p
broken_name (dotted_name p s) = unless (dotted s) p
broken_name (literal p c) = []
broken_name (declared p b) = []

abbrev pub broken_value : Item → List ℕ
broken_value (record_name p s) = []
broken_value (dotted_name p s) = []
broken_value (literal p c) = unless (well_formed c) p
broken_value (declared p b) = []

abbrev pub empty_attribute : Item → List ℕ
empty_attribute (record_name p s) = []
empty_attribute (dotted_name p s) = []
empty_attribute (literal p c) = []
empty_attribute (declared p b) = unless b p

-- the places at which some rule shows among the items
abbrev pub places_of : (Item → List ℕ) → List Item → List ℕ
places_of rule [] = []
places_of rule (i ∷ is) = rule i ++ places_of rule is

abbrev pub sooner : ℕ → Option ℕ → ℕ
sooner p None = p
sooner p (Some q) = min p q

-- the sooner of two places that may not be there
abbrev pub soonest : Option ℕ → Option ℕ → Option ℕ
soonest None x = x
soonest (Some p) x = Some (sooner p x)

abbrev pub least : List ℕ → Option ℕ
least [] = None
least (p ∷ ps) = Some (sooner p (least ps))
