-- Where the last dot of a name stands.
use Rattle.std.proofs.Common.{◌≡◌, ◌≢◌, ℕ, zero, suc, ◌+◌, ◌<◌, ◌≤◌, Bool, true, false, cond, ◌||◌, eqb, List, [], ◌∷◌, length, get_or, take, sym, refl, ap, ◌∙◌, arith}
use Rattle.std.proofs.lemmas.Bool.{cond-true, cond-false, or_left, or_right, or_from, eq-eqb, ne_eqb}
use Rattle.chains.specs.Chains.{has_dot, before_last_dot}

pub has_at : (xs : List ℕ) (i : ℕ) → i < length xs → get_or xs i 0 ≡ 46 → has_dot xs ≡ true
has_at [] i l e = absurd (omega arith)
has_at (x ∷ xs) zero l e = or_left _ _ (eq-eqb x 46 e)
has_at (x ∷ xs) (suc i) l e = or_right _ _ (has_at xs i (omega arith) e)

pub before-none : (xs : List ℕ) → has_dot xs ≡ false → before_last_dot xs ≡ []
before-none [] h = refl
before-none (x ∷ xs) h = go (eqb x 46) (has_dot xs) h
  where
    go : (dot more : Bool) → (dot || more) ≡ false → cond more (x ∷ before_last_dot xs) [] ≡ []
    go true true e = let z : ◌≡◌ {A = ℕ} 0 1 = cc in absurd (omega arith)
    go true false e = refl
    go false true e = let z : ◌≡◌ {A = ℕ} 0 1 = cc in absurd (omega arith)
    go false false e = refl

pub none-from : (xs : List ℕ) → ((k : ℕ) → k < length xs → get_or xs k 0 ≢ 46) → has_dot xs ≡ false
none-from [] h = refl
none-from (x ∷ xs) h = or_from _ _ (ne_eqb x 46 (h 0 (omega arith))) (none-from xs λ k l. h (suc k) (omega arith))

pub before_at : (xs : List ℕ) (i : ℕ) → i < length xs → get_or xs i 0 ≡ 46 → ((k : ℕ) → i + 1 ≤ k → k < length xs → get_or xs k 0 ≢ 46) → take i xs ≡ before_last_dot xs
before_at [] i l e h = absurd (omega arith)
before_at (x ∷ xs) zero l e h = sym (cond-false _ _ _ (none-from xs λ k m. h (suc k) (omega arith) (omega arith)))
before_at (x ∷ xs) (suc i) l e h =
    ap (λ r. x ∷ r) (before_at xs i (omega arith) e λ k m n. h (suc k) (omega arith) (omega arith)) ∙ sym (cond-true _ _ _ (has_at xs i (omega arith) e))
