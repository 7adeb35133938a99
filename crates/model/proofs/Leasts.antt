-- The least of places, as the library takes it.
use Rattle.std.proofs.Common.{◌≡◌, ℕ, min, List, [], ◌∷◌, Some, None, Option, refl, ap, ◌∙◌, arith}
use Rattle.std.specs.List.{fold, reduce}
use Rattle.model.specs.Rules.{least, sooner}

sooner_min : (p q : ℕ) (o : Option ℕ) → sooner (min p q) o ≡ min p (sooner q o)
sooner_min p q None = refl
sooner_min p q (Some m) = omega arith

fold_min : (p : ℕ) (ps : List ℕ) → fold min p ps ≡ sooner p (least ps)
fold_min p [] = refl
fold_min p (q ∷ ps) = fold_min (min p q) ps ∙ sooner_min p q (least ps)

pub reduce_min : (ps : List ℕ) → reduce min ps ≡ least ps
reduce_min [] = refl
reduce_min (p ∷ ps) = ap Some (fold_min p ps)
