-- What the references of a file are, whatever puts them in order.
use Rattle.std.specs.Prelude.{◌≡◌, List, map}
use mathlib.Core.List.{Memᴰ}
use Rattle.std.specs.List.Sorted.{IsStrictlySortedBy}
use Rattle.model.specs.Uses.{Use}
use Rattle.references.specs.References.{Reference, order, reference_of, references}

-- each is below all after it, and they are those of the uses
pub record Lists (us : List Use) (rs : List Reference) : Type 0 where
  pub ascends : IsStrictlySortedBy order rs
  pub within : (r : Reference) → Memᴰ r rs → Memᴰ r (map reference_of us)
  pub all : (r : Reference) → Memᴰ r (map reference_of us) → Memᴰ r rs

-- and no other list is so
abbrev pub ReferencesListed : Type 0
ReferencesListed = (us : List Use) → Lists us (references us) × ((rs : List Reference) → Lists us rs → rs ≡ references us)
