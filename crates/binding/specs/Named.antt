-- What binding the names of a file answers.
use Rattle.std.specs.Prelude.{◌≡◌, cond, List, None, Ok, Err, vec_items, Option, Result}
use Rattle.std.specs.Option.{option_map}
use Rattle.std.specs.BTreeMap as tree
use Rattle.model.specs.Tree.{Text}
use Rattle.model.specs.Limits.{same_reference, occurs}
use Rattle.model.specs.declared.uses.Reference.{Reference as ReferenceOf}
use Rattle.references.specs.References.{Reference, pair_of}
use Rattle.references.specs.Kept.{reference_cmp}
use Rattle.binding.specs.declared.names.Names.{Names}
use Rattle.binding.specs.declared.fault.Fault.{Fault}
use Rattle.binding.specs.declared.fault.Fault.TheVariants.{Exhausted, Memory}
use Rattle.binding.specs.Binding.{Binding, by_number, name_of, target_of, take_all_of, bound, exhausted, declared_by}
use Rattle.binding.specs.Held.{text_of, bindings_of}

-- the bindings that the names hold
abbrev pub bindings_held : Names → List Binding
bindings_held n = bindings_of (vec_items n.pool) (vec_items n.entries)

-- the name that they hold for a reference
abbrev pub name_held : Names → ReferenceOf → Option Text
name_held n r = option_map (text_of (vec_items n.pool)) (tree.get reference_cmp n.renaming r)

-- a reference's bound name, where it is one of these
abbrev pub name_among : List Reference → List Binding → Reference → Option Text
name_among rs b r = cond (occurs same_reference r rs) (name_of b (target_of r)) None

-- the names hold the bindings, and for each of the references its bound name
pub record Holds (own : Text) (ds : List Text) (rs : List Reference) (n : Names) : Type 0 where
  pub bindings : take_all_of by_number (declared_by own ds) rs ≡ bound (bindings_held n)
  pub renames : (r : ReferenceOf) → name_held n r ≡ name_among rs (bindings_held n) (pair_of r)

-- what a fault says: the first reference for which there is no name; of want of memory nothing follows
abbrev pub Explains : Text → List Text → List Reference → Fault → Type 0
Explains own ds rs (Exhausted r) = take_all_of by_number (declared_by own ds) rs ≡ exhausted (pair_of r)
Explains own ds rs Memory = Unit {0}

abbrev pub BindsNames : Text → List Text → List Reference → Result Names Fault → Type 0
BindsNames own ds rs (Ok n) = Holds own ds rs n
BindsNames own ds rs (Err e) = Explains own ds rs e
