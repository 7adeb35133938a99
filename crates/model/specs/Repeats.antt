-- So many calls, one after another, up to the first that fails.
use Rattle.std.specs.Prelude.{◌≡◌, ◌⊎◌, ℕ, zero, suc, Ok, IsErr, Result}
use Rattle.std.specs.Borrow.{MutBor}
use Rattle.std.specs.Fn.{Shared}

-- a call of f at a `&mut` to s may give r, and leave t there
pub record Calls {F S R : Type 0} (g : Shared F (MutBor S × Unit {0}) (R × (MutBor S × Unit {0}))) (f : F) (s : S) (r : R) (t : S) : Type 0 where
  pub shown : MutBor S
  pub shows : shown.now ≡ s
  pub left : MutBor S
  pub met : g.post f (shown, tt) (r, (left, tt))
  pub leaves : left.now ≡ t

-- n calls give r, and lead from s to t
abbrev pub Repeats : {S E : Type 0} → (S → Result (Unit {0}) E → S → Type 0) → ℕ → S → Result (Unit {0}) E → S → Type 0
Repeats call zero s r t = (r ≡ Ok tt) × (t ≡ s)
Repeats call (suc n) s r t = (call s r t × IsErr r) ⊎ ((m : _) × call s (Ok tt) m × Repeats call n m r t)
