-- How the names of a file come out, and why.
use Rattle.std.proofs.Common.{◌≡◌, ℕ, ◌⊎◌, List, [], ◌∷◌, ◌++◌, map, Some, None, Option, unwrap_or, sym, refl, ap, ◌∙◌, subst, inl, inr, ⊎_elim, arith, MatchOption}
use mathlib.Core.List.Memᴰ
use mathlib.Core.List.{Memᴰ}
use Rattle.std.proofs.lemmas.Bool.{cases_order, both_ways}
use Rattle.model.specs.Tree.{Text}
use Rattle.model.specs.Uses.{Use, Declared}
use Rattle.model.specs.Rules.{least}
use Rattle.references.specs.References.{Reference, reference_of, references, use_places, undeclared, name_of}
use Rattle.references.proofs.Listed.{lists_references}
use Rattle.binding.specs.Binding.{Target, Binding, by_number, Taken, bound, exhausted, fits, taken, bind_to, step, target_of, onward, take_all_of, declared_by}
use Rattle.binding.specs.Laws.{Exactly, Passed, Lowest, Exhausted}
use Rattle.binding.proofs.Seeking.{takes_lowest}
use Rattle.binding.proofs.Telling.{proposes-by_number, names_tell_lem}
use Rattle.resolver.specs.Resolved.{resolved, refused, names_from, unless, resolution}
use Rattle.loaded.specs.Laws.{First, UndeclaredAt, NoneUndeclared, UsedAt, Nameless, NamelessFrom, OneOfThree, Outcome}
use Rattle.loaded.proofs.Firsts.{undeclared-first, undeclared-none, first-undeclared, none-undeclared, used_first, used_none, first_used}

-- ---- a reference of the file is used in it

used : (us : List Use) (r : Reference) → Memᴰ r (map reference_of us) → (p : ℕ) × UsedAt us r p
used [] r m = elim m [ ]
used (u ∷ us) r m = go (used us r) (Memᴰ.cases_cons m)
  where
    go : (Memᴰ r (map reference_of us) → (p : ℕ) × UsedAt us r p) → (r ≡ reference_of u) ⊎ Memᴰ r (map reference_of us) → (p : ℕ) × UsedAt (u ∷ us) r p
    go later (inl e) = (u.place, record { there = u; collected = inl refl; at = refl; holds = sym e })
    go later (inr there) =
        let x = later there in
        (x.0, record { there = x.1.there; collected = inr x.1.collected; at = x.1.at; holds = x.1.holds })

between : (rs before : List Reference) (r : Reference) (after : List Reference) → rs ≡ before ++ r ∷ after → Memᴰ r rs
between rs before r after e = subst (λ l. Memᴰ r l) (sym e) (inside before)
  where
    inside : (qs : List Reference) → Memᴰ r (qs ++ r ∷ after)
    inside [] = Memᴰ.head refl
    inside (q ∷ qs) = Memᴰ.tail (inside qs)

-- ---- where proposals are used up, none is taken

module _ (b : List Binding) (t : Target) (x : Exhausted by_number b t) where
  never_lowest : (w : Text) → Lowest by_number b t w → ⊥
  never_lowest w l =
      ⊎_elim (λ e. let z : None ≡ Some w = sym x.none ∙ ap (by_number t) (sym e) ∙ l.is in let n : ◌≡◌ {A = ℕ} 0 1 = cc in omega arith)
      (⊎_elim (λ lower. both_ways (fits b t w) (subst (Passed b t) l.is (x.lower l.number lower)) l.fitting) (λ higher. subst (Passed b t) x.none (l.lower x.number higher)))
      (cases_order l.number x.number)

  none-taken : taken by_number b t ≡ None
  none-taken = go (taken by_number b t) (takes_lowest by_number proposes-by_number b t)
    where
      go : (o : Option Text) → MatchOption o (Exhausted by_number b t) (Lowest by_number b t) → o ≡ None
      go None c = refl
      go (Some w) l = absurd (never_lowest w l)

  no_step : step by_number b t ≡ None
  no_step = ap (bind_to b t) none-taken

taken_on : (b : List Binding) (before : List Reference) (c : List Binding) (rs : List Reference) → take_all_of by_number b before ≡ bound c → take_all_of by_number b (before ++ rs) ≡ take_all_of by_number c rs
taken_on b [] c rs e = let same : b ≡ c = cc in ap (λ x. take_all_of by_number x rs) same
taken_on b (q ∷ before) c rs e = go (step by_number b (target_of q)) (λ d. taken_on d before c rs) e
  where
    go : (o : Option (List Binding)) → ((d : List Binding) → take_all_of by_number d before ≡ bound c → take_all_of by_number d (before ++ rs) ≡ take_all_of by_number c rs)
        → onward o q (λ d. take_all_of by_number d before) ≡ bound c → onward o q (λ d. take_all_of by_number d (before ++ rs)) ≡ take_all_of by_number c rs
    go None more k = let z : ◌≡◌ {A = ℕ} 0 1 = cc in absurd (omega arith)
    go (Some d) more k = more d k

-- ---- the three ways

module _ (own : Text) (ds : List Declared) (us : List Use) where
  abbrev all : Taken
  all = take_all_of by_number (declared_by own (map name_of ds)) (references us)

  nameless-from : (r : Reference) → all ≡ exhausted r → Nameless own ds us r
  nameless-from r e = (names_tell_lem by_number proposes-by_number own (map name_of ds) (references us)).1 r e

  from-nameless : (r : Reference) → Nameless own ds us r → all ≡ exhausted r
  from-nameless r x =
      ap (take_all_of by_number (declared_by own (map name_of ds))) x.between
      ∙ taken_on (declared_by own (map name_of ds)) x.before x.names (r ∷ x.after) x.taken_before
      ∙ ap (λ o. onward o r (λ c. take_all_of by_number c x.after)) (no_step x.names (target_of r) x.none)

  -- it is used, so that there is a least place of it
  nameless-place : (r : Reference) → Nameless own ds us r → (p : ℕ) × (least (use_places r us) ≡ Some p)
  nameless-place r x = go (least (use_places r us)) refl
    where
      go : (o : Option ℕ) → least (use_places r us) ≡ o → (p : ℕ) × (least (use_places r us) ≡ Some p)
      go None e =
          let there = used us r ((lists_references us).within r (between (references us) x.before r x.after x.between)) in
          absurd (used_none r us e there.0 there.1)
      go (Some p) e = (p, e)

  -- resolution at what its two parts are
  came : (o : Option ℕ) (t : Taken) → least (undeclared own ds us) ≡ o → all ≡ t → resolution own ds us ≡ unless o (names_from t us)
  unfolding resolution
  came o t eo et = λ i. unless (eo i) (names_from (et i) us)

  came_10 : (p : ℕ) → least (undeclared own ds us) ≡ Some p → resolution own ds us ≡ refused 10 p
  came_10 p e = came (Some p) all e refl

  came_11 : (r : Reference) (p : ℕ) → least (undeclared own ds us) ≡ None → all ≡ exhausted r → least (use_places r us) ≡ Some p → resolution own ds us ≡ refused 11 p
  came_11 r p none e at = came None (exhausted r) none e ∙ ap (λ o. refused 11 (unwrap_or o 0)) at

  came-resolved : (b : List Binding) → least (undeclared own ds us) ≡ None → all ≡ bound b → resolution own ds us ≡ resolved b
  came-resolved b none e = came None (bound b) none e

  -- and which it is
  by_ways : {C : Type 0}
      → ((p : ℕ) → least (undeclared own ds us) ≡ Some p → C)
      → ((r : Reference) (p : ℕ) → least (undeclared own ds us) ≡ None → all ≡ exhausted r → least (use_places r us) ≡ Some p → C)
      → ((b : List Binding) → least (undeclared own ds us) ≡ None → all ≡ bound b → C)
      → C
  by_ways {C} ten eleven names = go (least (undeclared own ds us)) refl all refl
    where
      go : (o : Option ℕ) → least (undeclared own ds us) ≡ o → (t : Taken) → all ≡ t → C
      go (Some p) e t k = ten p e
      go None e (bound b) k = names b e k
      go None e (exhausted r) k = let at = nameless-place r (nameless-from r k) in eleven r at.0 e k at.1

  -- no two ways are one
  apart-refused : {C : Type 0} (k n p q : ℕ) → (k ≡ n → ⊥) → resolution own ds us ≡ refused k p → resolution own ds us ≡ refused n q → C
  apart-refused k n p q differ e f =
      let z : refused k p ≡ refused n q = sym e ∙ f in
      let same : k ≡ n = cc in
      absurd (differ same)

  apart-resolved : {C : Type 0} (k p : ℕ) (b : List Binding) → resolution own ds us ≡ refused k p → resolution own ds us ≡ resolved b → C
  apart-resolved k p b e f =
      let w : refused k p ≡ resolved b = sym e ∙ f in
      let z : ◌≡◌ {A = ℕ} 0 1 = cc in
      absurd (omega arith)

  same_place : {C : Type 0} (k p q : ℕ) → resolution own ds us ≡ refused k p → resolution own ds us ≡ refused k q → (p ≡ q → C) → C
  same_place k p q e f more =
      let z : refused k p ≡ refused k q = sym e ∙ f in
      let same : p ≡ q = cc in
      more same

  pub resolved-bound : (b : List Binding) → resolution own ds us ≡ resolved b → all ≡ bound b
  resolved-bound b e = by_ways
      (λ p ten. apart-resolved 10 p b (came_10 p ten) e)
      (λ r p none k at. apart-resolved 11 p b (came_11 r p none k at) e)
      (λ c none k.
      let z : resolved c ≡ resolved b = sym (came-resolved c none k) ∙ e in
      let same : c ≡ b = cc in
      k ∙ ap bound same)

  ways : OneOfThree (resolution own ds us)
  ways = by_ways
      (λ p ten. inl (p, came_10 p ten))
      (λ r p none k at. inr (inl (p, came_11 r p none k at)))
      (λ b none k. inr (inr (b, came-resolved b none k)))

  by10 : (p : ℕ) → Exactly (resolution own ds us ≡ refused 10 p) (First (UndeclaredAt own ds us) p)
  by10 p = (to, λ f. came_10 p (first-undeclared own ds us p f))
    where
      to : resolution own ds us ≡ refused 10 p → First (UndeclaredAt own ds us) p
      to e = by_ways
          (λ q ten. same_place 10 q p (came_10 q ten) e (λ same. undeclared-first own ds us p (ten ∙ ap Some same)))
          (λ r q none k at. apart-refused 11 10 q p (λ z. omega arith) (came_11 r q none k at) e)
          (λ b none k. apart-resolved 10 p b e (came-resolved b none k))

  by11 : (p : ℕ) → Exactly (resolution own ds us ≡ refused 11 p) (NoneUndeclared own ds us × NamelessFrom own ds us p)
  by11 p = (to, λ x. came_11 x.1.reference p (none-undeclared own ds us x.0) (from-nameless x.1.reference x.1.nameless) (first_used x.1.reference us p x.1.first))
    where
      to : resolution own ds us ≡ refused 11 p → NoneUndeclared own ds us × NamelessFrom own ds us p
      to e = by_ways
          (λ q ten. apart-refused 10 11 q p (λ z. omega arith) (came_10 q ten) e)
          (λ r q none k at. same_place 11 q p (came_11 r q none k at) e (λ same.
          (undeclared-none own ds us none, record { reference = r; nameless = nameless-from r k; first = used_first r us p (at ∙ ap Some same) })))
          (λ b none k. apart-resolved 11 p b e (came-resolved b none k))

  resolves : Exactly ((b : List Binding) × (resolution own ds us ≡ resolved b)) (NoneUndeclared own ds us × ((r : Reference) → Nameless own ds us r → ⊥))
  resolves = (to, from)
    where
      to : (b : List Binding) × (resolution own ds us ≡ resolved b) → NoneUndeclared own ds us × ((r : Reference) → Nameless own ds us r → ⊥)
      to x = by_ways
          (λ p ten. apart-resolved 10 p x.0 (came_10 p ten) x.1)
          (λ r p none k at. apart-resolved 11 p x.0 (came_11 r p none k at) x.1)
          (λ b none k. (
            undeclared-none own ds us none,
            λ r n.
                let w : bound b ≡ exhausted r = sym k ∙ from-nameless r n in
                let z : ◌≡◌ {A = ℕ} 0 1 = cc in
                omega arith,
          ))

      from : NoneUndeclared own ds us × ((r : Reference) → Nameless own ds us r → ⊥) → (b : List Binding) × (resolution own ds us ≡ resolved b)
      from x = by_ways
          (λ p ten. absurd (x.0 p (undeclared-first own ds us p ten).here))
          (λ r p none k at. absurd (x.1 r (nameless-from r k)))
          (λ b none k. (b, came-resolved b none k))

  pub outcome : Outcome own ds us
  outcome = record { ways = ways; by10 = by10; by11 = by11; resolves = resolves }
