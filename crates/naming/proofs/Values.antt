-- What digits count as.
use Rattle.std.proofs.Common.{◌≡◌, ℕ, ◌<◌, ◌≤◌, ltb, List, [], ◌∷◌, length, refl, arith}
use Rattle.std.specs.Str.Parse.{digits_value}
use Rattle.std.proofs.lemmas.Bool.{cond-true, cond-false, le-ltb, lt-ltb}
use Rattle.naming.specs.Next.{largest, counted}

pub counted-over : (ds : List ℕ) → largest < digits_value 10 ds → counted ds ≡ 1
counted-over [] l = refl
counted-over (d ∷ ds) l = cond-true (ltb largest (digits_value 10 (d ∷ ds))) 1 (digits_value 10 (d ∷ ds)) (lt-ltb _ _ l)

pub counted-within : (ds : List ℕ) → 0 < length ds → digits_value 10 ds ≤ largest → counted ds ≡ digits_value 10 ds
counted-within [] s l = absurd (omega arith)
counted-within (d ∷ ds) s l = cond-false (ltb largest (digits_value 10 (d ∷ ds))) 1 (digits_value 10 (d ∷ ds)) (le-ltb _ _ l)

pub counted_le : (ds : List ℕ) → counted ds ≤ largest
counted_le [] = omega arith
counted_le (d ∷ ds) = grind (arith)
