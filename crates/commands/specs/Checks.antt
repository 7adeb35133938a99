-- What `check` says of a file.
use Rattle.std.specs.Prelude.{◌≡◌, ℕ, List, Ok, Err, Result}
use Rattle.model.specs.Verdict.{accepted, verdict}
use Rattle.verdict.specs.Answers.{Tells}
use Rattle.session.specs.declared.fault.Fault.{Fault}
use Rattle.session.specs.Answers.{told}
use Rattle.session.specs.Calls.{count_of}

-- the verdict on these bytes and, where they are accepted, how many files they have; or memory lacked
abbrev pub ChecksFile : List ℕ → Result ℕ Fault → Type 0
ChecksFile bs (Ok files) = (verdict bs ≡ accepted) × (count_of bs ≡ Ok files)
ChecksFile bs (Err f) = Tells (verdict bs) (told f)
