-- The names of a file, or why it has none.
use Rattle.std.specs.Prelude.{ℕ, cond, List, map, Some, None, Option}
use Rattle.std.specs.Option.{unwrap_or}
use Rattle.model.specs.Tree.{Text}
use Rattle.model.specs.Uses.{Use, Declared}
use Rattle.model.specs.Rules.{least}
use Rattle.model.specs.Limits.{same_reference, occurs}
use Rattle.references.specs.References.{Reference, references, use_places, undeclared, name_of}
use Rattle.binding.specs.Binding.{Binding, by_number, Taken, bound, exhausted, take_all_of, declared_by, local_name}

pub data Resolved : Type 0 where
  resolved : List Binding → Resolved
  refused : ℕ → ℕ → Resolved

-- 11: no next name, at the first use of the first reference that has none; a reference that is taken is used
abbrev pub names_from : Taken → List Use → Resolved
names_from (bound b) us = resolved b
names_from (exhausted r) us = refused 11 (unwrap_or (least (use_places r us)) 0)

-- 10: a collected reference to the own module whose root is not declared, at the first use of one
abbrev pub unless : Option ℕ → Resolved → Resolved
unless None x = x
unless (Some p) x = refused 10 p

-- the names of a file by its own module, what it declares and what it collects
unfoldable pub resolution : Text → List Declared → List Use → Resolved
resolution own ds us =
    unless (least (undeclared own ds us)) (names_from (take_all_of by_number (declared_by own (map name_of ds)) (references us)) us)

-- what a reference is called in a file
pub data Local : Type 0 where
  named : Text → Local
  refused_by : ℕ → ℕ → Local

-- 14: a reference that is not collected
abbrev pub collected : Option Text → Local
collected None = refused_by 14 0
collected (Some w) = named w

abbrev pub local_from : Resolved → List Use → Reference → Local
local_from (refused n p) us r = refused_by n p
local_from (resolved b) us r = collected (cond (occurs same_reference r (references us)) (local_name b r) None)

abbrev pub local_by : Text → List Declared → List Use → Reference → Local
local_by own ds us r = local_from (resolution own ds us) us r
