-- The next name from its parts.
use Rattle.std.proofs.Common.{◌≡◌, ℕ, ◌+◌, ◌^◌, ◌<◌, ◌≤◌, eqb, List, ◌++◌, take, drop, Some, None, decimal, sym, arith}
use Rattle.std.proofs.lemmas.Bool.{cond-true, cond-false, eq-eqb, ne_eqb}
use Rattle.naming.specs.Next.{front, largest, number, next_name}
use Rattle.naming.proofs.Values.{counted_le}

number_le : (name : List ℕ) → number name ≤ largest
unfolding number
number_le name = counted_le (drop (front name) name)

pub next-none : (name : List ℕ) → (number name + 1 < 2 ^ 64 → ⊥) → None ≡ next_name name
unfolding next_name
next-none name full = let le = number_le name in sym (cond-true (eqb (number name) largest) _ _ (eq-eqb (number name) largest (omega arith)))

pub next-some : (name w : List ℕ) (at n : ℕ) → at ≡ front name → n ≡ number name + 1 → n < 2 ^ 64 → w ≡ take at name ++ decimal n → Some w ≡ next_name name
unfolding next_name
next-some name w at n f e room is = let s = cond-false (eqb (number name) largest) None (Some (take (front name) name ++ decimal (number name + 1))) (ne_eqb (number name) largest (λ z. omega arith)) in cc
