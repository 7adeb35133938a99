-- The number and the place of each answer by which a model is refused. Want of memory has neither.
use Rattle.std.specs.Prelude.{◌≡◌, ℕ, Some, None, Option}
use Rattle.verdict.specs.declared.refusal.Refusal.{Refusal}
use Rattle.verdict.specs.declared.refusal.Refusal.TheVariants.{Size, Layout, Name, Value, Sibling, Empty, Limit, Memory}
use Rattle.model.specs.declared.fault.Fault.{Fault}
use Rattle.model.specs.declared.fault.Fault.TheVariants.{Broken, Memory as NoMemory}
use Rattle.model.specs.Verdict.{Verdict, refused}

abbrev pub told : Refusal → Option (ℕ × ℕ)
told Size = Some (1, 0)
told (Layout p) = Some (2, p)
told (Name p) = Some (3, p)
told (Value p) = Some (4, p)
told (Sibling p) = Some (5, p)
told (Empty p) = Some (6, p)
told (Limit p) = Some (7, p)
told Memory = None

-- the number and the place are the verdict's; of want of memory nothing follows
abbrev pub Tells : Verdict → Option (ℕ × ℕ) → Type 0
Tells v None = Unit {0}
Tells v (Some x) = v ≡ refused x.0 x.1

abbrev pub Says : Verdict → Refusal → Type 0
Says v f = Tells v (told f)

-- what stops the reader, as a refusal
abbrev pub from_fault : Fault → Refusal
from_fault (Broken e) = Layout e.place
from_fault NoMemory = Memory
