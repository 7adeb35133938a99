-- The search for a name finds the lowest proposal that fits, and fails only where proposals come to an end.
use Rattle.std.proofs.Common.{◌≡◌, ℕ, zero, suc, ◌+◌, ◌<◌, Bool, true, false, cond, eqb, ◌⊎◌, List, [], ◌∷◌, map, length, Some, None, Option, sym, refl, ap, ◌∙◌, subst, inl, inr, arith, MatchOption}
use Rattle.std.specs.List.{AllByRecursion}
use lib.ListN.{length-map}
use Rattle.std.proofs.lemmas.Bool.{eqb-true, eqb-false, false≢true}
use Rattle.model.specs.Tree.{Text}
use Rattle.model.specs.Limits.{same_text_of}
use Rattle.binding.specs.Binding.{Target, Binding, Proposals, find, fits, allows, chosen, seek, taken}
use Rattle.binding.specs.Laws.{Proposes, Passed, Lowest, Exhausted, TakesLowest, Member}
use Rattle.references.proofs.Ties.{text-is}
use Rattle.binding.proofs.Pigeons.{Apart, pigeons}

pub extend : (P : ℕ → Type 0) (n : ℕ) → ((i : ℕ) → i < n → P i) → P n → (i : ℕ) → i < suc n → P i
extend P n f p i h = go (eqb i n) refl
  where
    go : (b : Bool) → eqb i n ≡ b → P i
    go true e = subst P (sym (eqb-true i n e)) p
    go false e = let d = eqb-false i n e in f i (omega arith)

-- a name that is bound stands among those of the bindings
found_in : (b : List Binding) (v : Text) (s : Target) → find b v ≡ Some s → Member v (map (λ e. e.name) b)
found_in [] v s h = let z : ◌≡◌ {A = ℕ} 0 1 = cc in absurd (omega arith)
found_in (e ∷ b) v s h = go (same_text_of v e.name) refl (found_in b v s) h
  where
    go : (c : Bool) → same_text_of v e.name ≡ c → (find b v ≡ Some s → Member v (map (λ e. e.name) b)) → cond c (Some e.target) (find b v) ≡ Some s → Member v (map (λ e. e.name) (e ∷ b))
    go true d more k = inl (text-is v e.name d)
    go false d more k = inr (more k)

pub passed_in : (b : List Binding) (t : Target) (v : Text) → fits b t v ≡ false → Member v (map (λ e. e.name) b)
passed_in b t v h = go (find b v) refl h
  where
    go : (o : Option Target) → find b v ≡ o → allows o t ≡ false → Member v (map (λ e. e.name) b)
    go None is k = absurd (false≢true (sym k))
    go (Some s) is k = found_in b v s is

module _ (propose : Proposals) (b : List Binding) (t : Target) where
  -- the first k proposals, where each is bound to another target
  record Upto (k : ℕ) : Type 0 where
    names : List Text
    many : length names ≡ k
    from : AllByRecursion (λ x. (i : ℕ) × (i < k) × (propose t i ≡ Some x)) names
    among : AllByRecursion (λ x. Member x (map (λ e. e.name) b)) names
    apart : Apart names

  later : (k : ℕ) (xs : List Text) → AllByRecursion (λ x. (i : ℕ) × (i < k) × (propose t i ≡ Some x)) xs → AllByRecursion (λ x. (i : ℕ) × (i < suc k) × (propose t i ≡ Some x)) xs
  later k [] h = tt
  later k (x ∷ xs) h = ((h.0.0, omega (arith, h.0.1), h.0.2), later k xs h.1)

  differs : Proposes propose → (k : ℕ) (v : Text) → propose t k ≡ Some v → (xs : List Text) → AllByRecursion (λ x. (i : ℕ) × (i < k) × (propose t i ≡ Some x)) xs → AllByRecursion (λ y. y ≡ v → ⊥) xs
  differs p k v is [] h = tt
  differs p k v is (x ∷ xs) h =
      (λ e. let j : h.0.0 ≡ k = p.differ t h.0.0 k v (h.0.2 ∙ ap Some e) is in omega (arith, h.0.1), differs p k v is xs h.1)

  upto : Proposes propose → (k : ℕ) → ((i : ℕ) → i < k → Passed b t (propose t i)) → Upto k
  upto p zero h = record { names = []; many = refl; from = tt; among = tt; apart = tt }
  upto p (suc k) h = go (propose t k) refl (h k (omega arith)) (upto p k (λ i l. h i (omega arith)))
    where
      go : (o : Option Text) → propose t k ≡ o → Passed b t o → Upto k → Upto (suc k)
      go None is x u = absurd x
      go (Some v) is x u = record {
        names = v ∷ u.names;
        many = ap suc u.many;
        from = ((k, omega arith, is), later k u.names u.from);
        among = (passed_in b t v x, u.among);
        apart = (differs p k v is u.names u.from, u.apart);
      }

  -- more proposals than there are bindings are not all bound
  enough : Proposes propose → ((i : ℕ) → i < suc (length b) → Passed b t (propose t i)) → ⊥
  enough p h =
      let u = upto p (suc (length b)) h in
      let l = pigeons u.names (map (λ e. e.name) b) u.apart u.among in
      let m = u.many in
      let n = length-map b (λ e. e.name) in
      omega arith

  abbrev Sought : ℕ → Option Text → Type 0
  Sought m None = Exhausted propose b t ⊎ ((i : ℕ) → i < m → Passed b t (propose t i))
  Sought m (Some w) = Lowest propose b t w

  sought : (k n m : ℕ) → m ≡ n + k → ((i : ℕ) → i < n → Passed b t (propose t i)) → Sought m (seek propose k n b t)
  sought zero n m e below = inr (λ i l. below i (omega arith))
  sought (suc k) n m e below = go (propose t n) refl (λ x. sought k (suc n) m (omega arith) (extend (λ i. Passed b t (propose t i)) n below x))
    where
      go : (o : Option Text) → propose t n ≡ o → (Passed b t (propose t n) → Sought m (seek propose k (suc n) b t)) → Sought m (chosen o (fits b t) (seek propose k (suc n) b t))
      go None is more = inl record { number = n; none = is; lower = below }
      go (Some w) is more = pick (fits b t w) refl
        where
          pick : (c : Bool) → fits b t w ≡ c → Sought m (cond c (Some w) (seek propose k (suc n) b t))
          pick true f = record { number = n; is = is; fitting = f; lower = below }
          pick false f = more (subst (Passed b t) (sym is) f)

  decided : Proposes propose → (o : Option Text) → Sought (suc (length b)) o → MatchOption o (Exhausted propose b t) (Lowest propose b t)
  decided p None (inl x) = x
  decided p None (inr h) = absurd (enough p h)
  decided p (Some w) l = l

pub takes_lowest : (propose : Proposals) → Proposes propose → TakesLowest propose
unfolding taken
takes_lowest propose p b t =
    decided propose b t p (seek propose (suc (length b)) 0 b t) (sought propose b t (suc (length b)) 0 (suc (length b)) (omega arith) (λ i l. absurd (omega arith)))
