-- What `local` answers, and what the buffer then holds.
use Rattle.std.specs.Prelude.{◌≡◌, ℕ, cond, List, [], ◌∷◌, ◌++◌, length, drop, Some, None, Ok, Err, Option, Result, nat_lt}
use Rattle.std.specs.List.{slice_get}
use Rattle.model.specs.Tree.{Text, Module, pymodule}
use Rattle.model.specs.Read.{Out, read, fault, model}
use Rattle.model.specs.Files.{files}
use Rattle.model.specs.Uses.{Use, Declared, collected, declarations}
use Rattle.chains.specs.Chains.{own_names}
use Rattle.references.specs.References.{Reference}
use Rattle.resolver.specs.Resolved.{Local, named, refused_by, local_by}
use Rattle.session.specs.declared.fault.Fault.{Fault}
use Rattle.session.specs.Answers.{told}

-- what a module itself collects and declares
abbrev pub uses_of : Module → List Use
uses_of (pymodule p s modules own classes functions attributes) = collected classes functions attributes

abbrev pub declared_of : Module → List Declared
declared_of (pymodule p s modules own classes functions attributes) = declarations classes functions attributes

-- what a reference is called in a file, by the dotted name of its module and by the module itself
abbrev pub local_in_of : Option Text → Option Module → Reference → Option Local
local_in_of None f r = None
local_in_of (Some own) None r = None
local_in_of (Some own) (Some f) r = Some (local_by own (declared_of f) (uses_of f) r)

-- the file with this number; none past the last
abbrev pub local_at : Module → ℕ → Reference → Option Local
local_at m k r = local_in_of (slice_get (own_names m) k) (slice_get (files m) k) r

pub data Answer : Type 0 where
  written : Text → Answer
  refused : ℕ → ℕ → Answer

-- 15: the buffer has not room enough; the place is the name's length
abbrev pub in_room : Local → ℕ → Answer
in_room (refused_by n p) room = refused n p
in_room (named w) room = cond (nat_lt room (length w)) (refused 15 (length w)) (written w)

-- 9: no such file
abbrev pub in_file : Option Local → ℕ → Answer
in_file None room = refused 9 0
in_file (Some l) room = in_room l room

abbrev pub in_model : Out Module → ℕ → Reference → ℕ → Answer
in_model (fault p) k r room = refused 9 0
in_model (read m rest) k r room = in_file (local_at m k r) room

-- 8: no model
abbrev pub local_of : List ℕ → ℕ → Reference → ℕ → Answer
local_of [] k r room = refused 8 0
local_of (b ∷ bs) k r room = in_model (model (b ∷ bs)) k r room

-- the name stands at the buffer's start, and the bytes behind it stay
abbrev pub Writes : Answer → ℕ → List ℕ → List ℕ → Type 0
Writes (written w) n before after = (n ≡ length w) × (after ≡ w ++ drop (length w) before)
Writes (refused k p) n before after = ⊥

abbrev pub Tells : Answer → Option (ℕ × ℕ) → Type 0
Tells a None = Unit {0}
Tells a (Some x) = a ≡ refused x.0 x.1

-- the name is written and its length answered; or it is refused by that number at that place, or memory lacked, and the buffer
-- is as it was
abbrev pub Answers : Answer → Result ℕ Fault → List ℕ → List ℕ → Type 0
Answers a (Ok n) before after = Writes a n before after
Answers a (Err f) before after = Tells a (told f) × (after ≡ before)

-- the same for a name in two parts, where there is one
abbrev pub joined : Option Text → Text → Local
joined None rest = refused_by 14 0
joined (Some w) rest = named (w ++ rest)
