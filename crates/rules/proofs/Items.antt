-- No item shows a rule's place exactly if each item meets the rule.
use Rattle.std.proofs.Common.{◌≡◌, ℕ, true, ◌↔◌, List, [], Decides, refl}
use Rattle.std.specs.List.{AllByRecursion}
use mathlib.Core.Logic.Iff
use Rattle.text.proofs.NamesDecided.{identifier-Decides, dotted-Decides}
use Rattle.text.proofs.NumbersDecided.{int-Decides, float-Decides}
use Rattle.text.proofs.Utf8Decided.{utf8-Decides}
use Rattle.model.specs.Tree.{Constant, py_none, py_false, py_true, int, float, str, ellipsis}
use Rattle.model.specs.Rules.{Item, record_name, dotted_name, literal, declared, well_formed, broken_name, broken_value, empty_attribute, places_of}
use Rattle.rules.specs.Meets.{NameMeets, ConstantMeets, ValueMeets, AttributeMeets}
use Rattle.rules.proofs.Empty.{unless_nil, all_nil}

always : {A : Type 0} (x : A) → (x ≡ x) ↔ Unit {0}
always x = (λ e. tt, λ h. refl)

constant-Decides : (c : Constant) → Decides (well_formed c) (ConstantMeets c)
constant-Decides py_none = always true
constant-Decides py_false = always true
constant-Decides py_true = always true
constant-Decides (int s) = int-Decides s
constant-Decides (float s) = float-Decides s
constant-Decides (str s) = utf8-Decides s
constant-Decides ellipsis = always true

name_meets : (i : Item) → (broken_name i ≡ []) ↔ NameMeets i
name_meets (record_name p s) = Iff.trans (unless_nil _ p) (identifier-Decides s)
name_meets (dotted_name p s) = Iff.trans (unless_nil _ p) (dotted-Decides s)
name_meets (literal p c) = always []
name_meets (declared p b) = always []

value-meets : (i : Item) → (broken_value i ≡ []) ↔ ValueMeets i
value-meets (record_name p s) = always []
value-meets (dotted_name p s) = always []
value-meets (literal p c) = Iff.trans (unless_nil _ p) (constant-Decides c)
value-meets (declared p b) = always []

attribute-meets : (i : Item) → (empty_attribute i ≡ []) ↔ AttributeMeets i
attribute-meets (record_name p s) = always []
attribute-meets (dotted_name p s) = always []
attribute-meets (literal p c) = always []
attribute-meets (declared p b) = unless_nil b p

items_nil : (rule : Item → List ℕ) (P : Item → Type 0) → ((i : Item) → (rule i ≡ []) ↔ P i) → (is : List Item) → (places_of rule is ≡ []) ↔ AllByRecursion P is
items_nil rule P each is = all_nil rule P (places_of rule) each refl (λ _ _. refl) is

pub names-meet : (is : List Item) → (places_of broken_name is ≡ []) ↔ AllByRecursion NameMeets is
names-meet is = items_nil broken_name NameMeets name_meets is

pub values-meet : (is : List Item) → (places_of broken_value is ≡ []) ↔ AllByRecursion ValueMeets is
values-meet is = items_nil broken_value ValueMeets value-meets is

pub attributes-meet : (is : List Item) → (places_of empty_attribute is ≡ []) ↔ AllByRecursion AttributeMeets is
attributes-meet is = items_nil empty_attribute AttributeMeets attribute-meets is
