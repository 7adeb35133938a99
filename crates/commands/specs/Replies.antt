-- Which answer a line of a session may have.
use Rattle.std.specs.Prelude.{◌≡◌, ℕ, true, ◌⊎◌, List, [], ◌∷◌, ◌++◌, is_some, Some, None, Ok, Err, codes, Option, Result, ◌≢◌}
use Rattle.model.specs.Verdict.{accepted, verdict}
use Rattle.verdict.specs.Answers.{Tells}
use Rattle.session.specs.declared.fault.Fault.{Fault}
use Rattle.session.specs.Answers.{told}
use Rattle.session.specs.Calls.{count_of}
use Rattle.commands.specs.Calls.{Loads}
use Rattle.commands.specs.Hex.{hex_bytes}
use Rattle.commands.specs.declared.serve.Answer.{Answer}
use Rattle.commands.specs.declared.serve.Answer.TheVariants.{Loaded, Count, Unknown}

-- the text of a line, which a newline may end
abbrev pub Ends : List ℕ → List ℕ → Type 0
Ends line text =
    (line ≡ text ++ 10 ∷ []) ⊎ ((text ≡ line) × ((front : List ℕ) → line ≢ front ++ 10 ∷ []))

-- the bytes that digits are, and none where they are no bytes
abbrev pub bytes_of : Option (List ℕ) → List ℕ
bytes_of None = []
bytes_of (Some bs) = bs

-- What a load of these bytes answers, and what the session holds before and after: the answer is the verdict's, unless
-- memory lacked.
abbrev pub LoadingBytes : List ℕ → List ℕ → List ℕ → Result Answer Fault → Type 0
LoadingBytes bs before after (Ok Loaded) = (verdict bs ≡ accepted) × (after ≡ bs)
LoadingBytes bs before after (Ok (Count files)) = ⊥
LoadingBytes bs before after (Ok Unknown) = ⊥
LoadingBytes bs before after (Err f) = Tells (verdict bs) (told f) × (after ≡ before)

-- The same of digits, which are unknown where they are no bytes. Only bytes are refused, and memory lacks for bytes alone.
abbrev pub Loading : List ℕ → List ℕ → List ℕ → Result Answer Fault → Type 0
Loading digits before after (Ok Loaded) =
    (is_some (hex_bytes digits) ≡ true) × LoadingBytes (bytes_of (hex_bytes digits)) before after (Ok Loaded)
Loading digits before after (Ok (Count files)) = ⊥
Loading digits before after (Ok Unknown) = (hex_bytes digits ≡ None) × (after ≡ before)
Loading digits before after (Err f) = (is_some (hex_bytes digits) ≡ true) × LoadingBytes (bytes_of (hex_bytes digits)) before after (Err f)

-- what a count answers of a session that holds these bytes
abbrev pub counted : Result ℕ Fault → Result Answer Fault
counted (Ok files) = Ok (Count files)
counted (Err f) = Err f

-- only a call can be answered or fail; a line is unknown where it is no call, or loads what are no bytes
abbrev pub Replies : List ℕ → List ℕ → List ℕ → Result Answer Fault → Type 0
Replies line before after (Ok Loaded) = (digits : List ℕ) × (Loads line digits × Loading digits before after (Ok Loaded))
Replies line before after (Ok (Count files)) =
    (line ≡ codes "count") × (counted (count_of before) ≡ Ok (Count files)) × (after ≡ before)
Replies line before after (Ok Unknown) =
    ((((digits : List ℕ) → Loads line digits → ⊥) × (line ≢ codes "count")) × (after ≡ before))
    ⊎ ((digits : List ℕ) × (Loads line digits × Loading digits before after (Ok Unknown)))
Replies line before after (Err f) =
    ((line ≡ codes "count") × (counted (count_of before) ≡ Err f) × (after ≡ before))
    ⊎ ((digits : List ℕ) × (Loads line digits × Loading digits before after (Err f)))
