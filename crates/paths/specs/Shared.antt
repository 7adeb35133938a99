-- Where the leading parts that two names have in common end, in both: at a dot or at the end of the text.
use Rattle.std.specs.Prelude.{ℕ, suc, cond, List, [], ◌∷◌, Some, None, Option, ◌==◌}

-- with the first `i` bytes the same, and the last such end among them
abbrev pub shared_from : ℕ → Option ℕ → List ℕ → List ℕ → Option ℕ
shared_from i last [] [] = Some i
shared_from i last [] (t ∷ ts) = cond (t == 46) (Some i) last
shared_from i last (b ∷ bs) [] = cond (b == 46) (Some i) last
shared_from i last (b ∷ bs) (t ∷ ts) = cond (b == t) (shared_from (suc i) (cond (b == 46) (Some i) last) bs ts) last

abbrev pub shared : List ℕ → List ℕ → Option ℕ
shared base target = shared_from 0 None base target

-- the dots of a name
abbrev pub dots_in : List ℕ → List ℕ
dots_in [] = []
dots_in (b ∷ bs) = cond (b == 46) (46 ∷ dots_in bs) (dots_in bs)
