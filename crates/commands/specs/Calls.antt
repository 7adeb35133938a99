-- What the lines of a session say.
use Rattle.std.specs.Prelude.{◌≡◌, ℕ, ◌<◌, ◌⊎◌, List, [], ◌++◌, length, codes, ◌≢◌, slice_index}
use Rattle.commands.specs.declared.call.Call.{Call}
use Rattle.commands.specs.declared.call.Call.TheVariants.{Load, Count, Unknown}

-- a space behind `load`, and one word behind that
abbrev pub LoadsWord : List ℕ → List ℕ → Type 0
LoadsWord line digits =
    (line ≡ codes "load " ++ digits) × (0 < length digits) × ((k : ℕ) → k < length digits → slice_index digits k ≢ 32)

-- `load` with these digits; alone it has none
abbrev pub Loads : List ℕ → List ℕ → Type 0
Loads line digits = ((line ≡ codes "load") × (digits ≡ [])) ⊎ LoadsWord line digits

-- the line is this call, or none that is known
abbrev pub Means : List ℕ → Call → Type 0
Means line (Load digits) = Loads line digits.now
Means line Count = line ≡ codes "count"
Means line Unknown = ((digits : List ℕ) → Loads line digits → ⊥) × (line ≢ codes "count")
