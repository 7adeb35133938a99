-- Lines as a text: each with a newline.
use Rattle.std.specs.Prelude.{◌≡◌, ℕ, ◌≤◌, cond, List, [], ◌∷◌, ◌++◌, length, take, ◌==◌}
use Rattle.std.specs.List.{AllByRecursion}
use Rattle.sink.specs.Sinks.{Plain}

abbrev pub written : List (List ℕ) → List ℕ
written [] = []
written (l ∷ ls) = l ++ (10 ∷ written ls)

-- the lines of a text: what stands between its newlines

abbrev pub begin : ℕ → List (List ℕ) → List (List ℕ)
begin b [] = (b ∷ []) ∷ []
begin b (l ∷ ls) = (b ∷ l) ∷ ls

abbrev pub lines_in : List ℕ → List (List ℕ)
lines_in [] = []
lines_in (b ∷ bs) = cond (b == 10) ([] ∷ lines_in bs) (begin b (lines_in bs))

-- the text is lines, each with a newline
abbrev pub Whole : List ℕ → Type 0
Whole bs = written (lines_in bs) ≡ bs

-- the runs that, so written, fit into so many bytes
abbrev pub Fitting : ℕ → List (List ℕ) → Type 0
Fitting room rs = AllByRecursion Plain rs × (length (written rs) ≤ room)

-- the runs that, so written, are a beginning of the text
abbrev pub Matching : List ℕ → List (List ℕ) → Type 0
Matching text rs = AllByRecursion Plain rs × (take (length (written rs)) text ≡ written rs)

-- where such a text has a last byte, that is a newline
abbrev pub TextsEnd : Type 0
TextsEnd = (ls : List (List ℕ)) (front : List ℕ) (b : ℕ) → written ls ≡ front ++ (b ∷ []) → b ≡ 10
