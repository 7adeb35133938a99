-- By which number and at which place a well laid-out model is refused.
use Rattle.std.specs.Prelude.{◌≡◌, ℕ, ◌<◌, ◌≤◌, ◌⊎◌, ◌↔◌, List, [], ◌∷◌, length}
use Rattle.model.specs.Tree.{Module}
use Rattle.model.specs.Read.{read, model}
use Rattle.model.specs.Verdict.{refused, broken_names, broken_values, repeated_modules, empty_attributes, surplus, verdict}

-- p is one of these places
abbrev pub Among : ℕ → List ℕ → Type 0
Among p [] = ⊥
Among p (q ∷ qs) = (p ≡ q) ⊎ Among p qs

-- each number with the places at which it shows
abbrev pub rules : Module → List (ℕ × List ℕ)
rules m =
    (3, broken_names m) ∷ (4, broken_values m) ∷ (5, repeated_modules m) ∷ (6, empty_attributes m) ∷ (7, surplus m) ∷ []

-- a number shows at a place
abbrev pub ShowsIn : List (ℕ × List ℕ) → ℕ → ℕ → Type 0
ShowsIn [] k p = ⊥
ShowsIn (r ∷ rs) k p = ((k ≡ r.0) × Among p r.1) ⊎ ShowsIn rs k p

-- a number shows at a place, and neither does it at a lesser place nor a lower number anywhere
pub record FirstIn (rs : List (ℕ × List ℕ)) (k p : ℕ) : Type 0 where
  pub shows : ShowsIn rs k p
  pub least : (q : ℕ) → ShowsIn rs k q → p ≤ q
  pub lowest : (j q : ℕ) → j < k → ShowsIn rs j q → ⊥

-- A model of a fit size that is read as a tree is refused by a number at a place exactly if that is the first that shows.
abbrev pub RefusesFirst : Type 0
RefusesFirst =
    (bs : List ℕ) → 1 ≤ length bs → length bs ≤ 16384 → (m : Module) → model bs ≡ read m [] → (k p : ℕ) → (verdict bs ≡ refused k p) ↔ FirstIn (rules m) k p
