-- What the calls of a session answer and leave. A session holds the bytes of its model, and none where it has no model yet.
use Rattle.std.specs.Prelude.{◌≡◌, ℕ, List, [], ◌∷◌, length, Some, None, Ok, Err, Option, Result}
use Rattle.session.specs.declared.fault.Fault.{Fault}
use Rattle.session.specs.declared.fault.Fault.TheVariants.{NoModel}
use Rattle.model.specs.Tree.{Module}
use Rattle.model.specs.Read.{Out, read, fault, model}
use Rattle.model.specs.Files.{files}
use Rattle.model.specs.Verdict.{accepted, verdict}
use Rattle.verdict.specs.Answers.{Tells}
use Rattle.rules.specs.Meets.{Loads}
use Rattle.session.specs.Answers.{told}

-- load makes the bytes the model where the verdict accepts them; otherwise it answers the verdict's refusal, or that memory
-- lacked, and the session holds what it held
abbrev pub Loaded : List ℕ → List ℕ → Result (Unit {0}) Fault → List ℕ → Type 0
Loaded bs before (Ok x) after = (verdict bs ≡ accepted) × (after ≡ bs)
Loaded bs before (Err f) after = Tells (verdict bs) (told f) × (after ≡ before)

-- accepted are exactly the models that meet the rules
abbrev pub Refuted : Option (ℕ × ℕ) → List ℕ → Type 0
Refuted None bs = Unit {0}
Refuted (Some x) bs = Loads bs → ⊥

abbrev pub LoadsWhatMeets : List ℕ → Result (Unit {0}) Fault → Type 0
LoadsWhatMeets bs (Ok x) = Loads bs
LoadsWhatMeets bs (Err f) = Refuted (told f) bs

-- how many files a model has
abbrev pub files_count : Out Module → ℕ
files_count (read m r) = length (files m)
files_count (fault p) = 0

-- count answers how many files the model has, and refuses where there is no model
abbrev pub count_of : List ℕ → Result ℕ Fault
count_of [] = Err NoModel
count_of (b ∷ bs) = Ok (files_count (model (b ∷ bs)))
