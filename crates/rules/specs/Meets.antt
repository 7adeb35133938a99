-- The rules on a model, in words: which models load.
use Rattle.std.specs.Prelude.{◌≡◌, ℕ, ◌≤◌, true, ◌↔◌, List, [], ◌∷◌, map, length, ◌≢◌}
use Rattle.std.specs.List.{AllByRecursion}
use Rattle.text.specs.Names.{Identifier, Dotted}
use Rattle.text.specs.Numbers.{Int, Float}
use Rattle.text.specs.Utf8.{Utf8}
use Rattle.model.specs.Tree.{Text, Constant, Module, Modules, py_none, py_false, py_true, int, float, str, ellipsis, pymodule, no_module, add_module}
use Rattle.model.specs.Rules.{Item, record_name, dotted_name, literal, declared, module_items}
use Rattle.model.specs.Files.{files}
use Rattle.model.specs.Uses.{Use, Declared, builtins, collected, declarations}
use Rattle.model.specs.Limits.{distinct, same_text_of, same_reference}
use Rattle.model.specs.Laws.{Bytes, Describes}
use Rattle.model.specs.Verdict.{accepted, module_name, verdict}

-- a record's name is an identifier, and the text of a Name or an Attribute a dotted name
abbrev pub NameMeets : Item → Type 0
NameMeets (record_name p s) = Identifier s
NameMeets (dotted_name p s) = Dotted s
NameMeets (literal p c) = Unit {0}
NameMeets (declared p b) = Unit {0}

abbrev pub ConstantMeets : Constant → Type 0
ConstantMeets py_none = Unit {0}
ConstantMeets py_false = Unit {0}
ConstantMeets py_true = Unit {0}
ConstantMeets (int s) = Int s
ConstantMeets (float s) = Float s
ConstantMeets (str s) = Utf8 s
ConstantMeets ellipsis = Unit {0}

-- an Int, a Float and a Str meet their rules
abbrev pub ValueMeets : Item → Type 0
ValueMeets (record_name p s) = Unit {0}
ValueMeets (dotted_name p s) = Unit {0}
ValueMeets (literal p c) = ConstantMeets c
ValueMeets (declared p b) = Unit {0}

-- an attribute has a value or an annotation
abbrev pub AttributeMeets : Item → Type 0
AttributeMeets (record_name p s) = Unit {0}
AttributeMeets (dotted_name p s) = Unit {0}
AttributeMeets (literal p c) = Unit {0}
AttributeMeets (declared p b) = b ≡ true

abbrev pub listed_modules : Modules → List Module
listed_modules no_module = []
listed_modules (add_module m ms) = m ∷ listed_modules ms

-- the modules that a module holds itself
abbrev pub submodules : Module → List Module
submodules (pymodule p s modules own classes functions attributes) = listed_modules modules

-- no text comes twice
abbrev pub AllDifferent : List Text → Type 0
AllDifferent [] = Unit {0}
AllDifferent (s ∷ ss) = AllByRecursion (λ t. s ≢ t) ss × AllDifferent ss

abbrev pub declared_names : Module → List Text
declared_names (pymodule p s modules own classes functions attributes) =
    map (λ (d : Declared). d.name) (declarations classes functions attributes)

abbrev pub references : Module → List (Text × Text)
references (pymodule p s modules own classes functions attributes) =
    map (λ (u : Use). (u.from, u.name)) (collected classes functions attributes)

-- a tree meets the rules
pub record Meets (m : Module) : Type 0 where
  pub names : AllByRecursion NameMeets (module_items m)
  pub root : module_name m ≡ builtins → ⊥
  pub values : AllByRecursion ValueMeets (module_items m)
  pub siblings : AllByRecursion (λ f. AllDifferent (map module_name (submodules f))) (files m)
  pub attributes : AllByRecursion AttributeMeets (module_items m)
  pub modules : length (files m) ≤ 128
  pub declared : AllByRecursion (λ f. distinct same_text_of (declared_names f) ≤ 512) (files m)
  pub references : AllByRecursion (λ f. distinct same_reference (references f) ≤ 512) (files m)

-- a model loads: it has at least one byte and at most 16,384, describes a tree, and the tree meets the rules
pub record Loads (bs : List ℕ) : Type 0 where
  pub tree : Module
  pub some : 1 ≤ length bs
  pub few : length bs ≤ 16384
  pub describes : Describes bs tree
  pub meets : Meets tree

-- The verdict accepts exactly the models that load.
abbrev pub LoadsExactly : Type 0
LoadsExactly = (bs : List ℕ) → Bytes bs → (verdict bs ≡ accepted) ↔ Loads bs
