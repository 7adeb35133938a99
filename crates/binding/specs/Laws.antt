-- What holds of the names that are bound, whatever way names are proposed in.
use Rattle.std.specs.Prelude.{◌≡◌, ℕ, ◌<◌, true, false, ◌⊎◌, List, [], ◌∷◌, ◌++◌, is_some, Some, None, Option, MatchOption}
use Rattle.std.specs.List.{AllByRecursion}
use Rattle.model.specs.Tree.{Text}
use Rattle.text.specs.Names.{spelled}
use Rattle.binding.specs.Binding.{Target, Binding, Proposals, by_number, find, name_of, fits, taken, target_of, take_all_of, bound, exhausted, declared_by}
use Rattle.references.specs.References.{Reference}

-- All that is asked of a way to propose names: proposal 0 is the root, all proposals of a target differ, and each is spelled
-- like an identifier where the root is.
pub record Proposes (propose : Proposals) : Type 0 where
  pub first : (t : Target) → propose t 0 ≡ Some t.1
  pub differ : (t : Target) (i j : ℕ) (w : Text) → propose t i ≡ Some w → propose t j ≡ Some w → i ≡ j
  pub shaped : (t : Target) (n : ℕ) (w : Text) → spelled t.1 ≡ true → propose t n ≡ Some w → spelled w ≡ true

-- a proposal that is there and is bound to another target
abbrev pub Passed : List Binding → Target → Option Text → Type 0
Passed b t None = ⊥
Passed b t (Some v) = fits b t v ≡ false

module _ (propose : Proposals) (b : List Binding) (t : Target) where
  -- w is the lowest proposal that is free or bound to this target
  pub record Lowest (w : Text) : Type 0 where
    pub number : ℕ
    pub is : propose t number ≡ Some w
    pub fitting : fits b t w ≡ true
    pub lower : (i : ℕ) → i < number → Passed b t (propose t i)

  -- the proposals come to an end, and each of them is bound to another target
  pub record Exhausted : Type 0 where
    pub number : ℕ
    pub none : propose t number ≡ None
    pub lower : (i : ℕ) → i < number → Passed b t (propose t i)

-- the name that is taken is the lowest, and none is taken only where proposals come to an end
abbrev pub TakesLowest : Proposals → Type 0
TakesLowest propose =
    (b : List Binding) (t : Target) → MatchOption (taken propose b t) (Exhausted propose b t) (Lowest propose b t)

-- Names and targets are bound one to one, each target under the lowest name that was free for it.
pub record Lawful (propose : Proposals) (b : List Binding) : Type 0 where
  pub named : (w : Text) (t : Target) → find b w ≡ Some t → name_of b t ≡ Some w
  pub bound : (w : Text) (t : Target) → name_of b t ≡ Some w → find b w ≡ Some t
  pub lowest : (w : Text) (t : Target) → find b w ≡ Some t → Lowest propose b t w

-- whatever way names are proposed in
abbrev pub LowestTaken : Type 0
LowestTaken = (propose : Proposals) → Proposes propose → TakesLowest propose

abbrev pub Member : {A : Type 0} → A → List A → Type 0
Member x [] = ⊥
Member x (y ∷ ys) = (x ≡ y) ⊎ Member x ys

abbrev pub Exactly : Type 0 → Type 0 → Type 0
Exactly P Q = (P → Q) × (Q → P)

-- What the names of a file tell, which declares `ds`, refers to `rs`, and has bound b.
pub record Tells (propose : Proposals) (own : Text) (ds : List Text) (rs : List Reference) (b : List Binding) : Type 0 where
  pub lawful : Lawful propose b
  -- a declared name is bound to itself in the own module
  pub declared : (d : Text) → Member d ds → find b d ≡ Some (own, d)
  -- each reference has a name, and two have the same exactly if module and root are equal
  pub named : (r : Reference) → Member r rs → is_some (name_of b (target_of r)) ≡ true
  pub same : (r s : Reference) → Member r rs → Member s rs → Exactly (name_of b (target_of r) ≡ name_of b (target_of s)) (target_of r ≡ target_of s)
  -- nothing else is bound
  pub only : (w : Text) (t : Target) → find b w ≡ Some t → (Member w ds × (t ≡ (own, w))) ⊎ ((r : Reference) × Member r rs × (target_of r ≡ t))
  -- names are spelled like identifiers where the declared ones and the roots are
  pub shaped : AllByRecursion (λ d. spelled d ≡ true) ds → AllByRecursion (λ r. spelled (target_of r).1 ≡ true) rs → (w : Text) (t : Target) → find b w ≡ Some t → spelled w ≡ true

-- What it means that there is no name for a reference: those before it have names, and all proposals for it are taken.
pub record RunsOut (propose : Proposals) (own : Text) (ds : List Text) (rs : List Reference) (r : Reference) : Type 0 where
  pub before : List Reference
  pub after : List Reference
  pub between : rs ≡ before ++ r ∷ after
  pub names : List Binding
  pub taken_before : take_all_of propose (declared_by own ds) before ≡ bound names
  pub none : Exhausted propose names (target_of r)

-- whatever way names are proposed in, all of this holds of them
abbrev pub NamesTell : Type 0
NamesTell =
    (propose : Proposals) → Proposes propose → (own : Text) (ds : List Text) (rs : List Reference)
    → ((b : List Binding) → take_all_of propose (declared_by own ds) rs ≡ bound b → Tells propose own ds rs b)
    × ((r : Reference) → take_all_of propose (declared_by own ds) rs ≡ exhausted r → RunsOut propose own ds rs r)

-- the numbered names are such a way, so all of it holds of them
pub record NamesByNumber : Type 0 where
  pub proposes : Proposes by_number
  pub lowest : TakesLowest by_number
