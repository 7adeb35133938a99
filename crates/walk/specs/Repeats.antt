-- So many steps, one after another.
use Rattle.std.specs.Prelude.{◌≡◌, ℕ, zero, suc}

-- n steps lead from s to t
abbrev pub Repeats : {S : Type 0} → (S → S → Type 0) → ℕ → S → S → Type 0
Repeats step zero s t = t ≡ s
Repeats step (suc n) s t = (m : _) × step s m × Repeats step n m t
