-- The least place of the uses that pass a test, in words.
use Rattle.std.proofs.Common.{◌≡◌, ℕ, min, Bool, true, false, cond, not, List, [], ◌∷◌, map, Some, None, Option, sym, refl, ap, ◌∙◌, subst, inl, inr, ⊎_elim, arith}
use Rattle.std.proofs.lemmas.Bool.{cases_lt, both_ways, and_from, and_parts, or_cases, or_left, or_right, not-true, not_from_false, cases_Bool, false≢true}
use Rattle.model.specs.Tree.{Text}
use Rattle.model.specs.Uses.{Use, Declared}
use Rattle.model.specs.Limits.{occurs, same_text_of, same_reference}
use Rattle.model.specs.Rules.{least, sooner}
use Rattle.references.specs.References.{Reference, reference_of, root_of, places_by, use_places, lacks, undeclared, name_of}
use Rattle.references.proofs.Ties.{text_itself, text-is, same_itself, same-is}
use Rattle.binding.specs.Laws.{Member, Exactly}
use Rattle.loaded.specs.Laws.{UseAt, First, UndeclaredAt, UsedAt}

module _ (test : Use → Bool) (P : Use → Type 0) (decides : (u : Use) → Exactly (test u ≡ true) (P u)) where
  -- what the least place of those that pass tells
  abbrev Told : List Use → Option ℕ → Type 0
  Told us None = (p : ℕ) → UseAt us P p → ⊥
  Told us (Some p) = First (UseAt us P) p

  here : (u : Use) (us : List Use) → P u → UseAt (u ∷ us) P u.place
  here u us h = record { there = u; collected = inl refl; at = refl; holds = h }

  later : (u : Use) (us : List Use) (p : ℕ) → UseAt us P p → UseAt (u ∷ us) P p
  later u us p x = record { there = x.there; collected = inr x.collected; at = x.at; holds = x.holds }

  -- a use at a place is the first, or a later one
  either : {C : Type 0} (u : Use) (us : List Use) (p : ℕ) → UseAt (u ∷ us) P p → (u.place ≡ p → P u → C) → (UseAt us P p → C) → C
  either u us p x f g =
      ⊎_elim (λ e. f (ap (λ (v : Use). v.place) (sym e) ∙ x.at) (subst P e x.holds))
      (λ m. g (record { there = x.there; collected = m; at = x.at; holds = x.holds })) x.collected

  passes : (u : Use) (us : List Use) → P u → (o : Option ℕ) → Told us o → Told (u ∷ us) (Some (sooner u.place o))
  passes u us h None none = record { here = here u us h; least = λ q x. either u us q x (λ e _. omega arith) (λ y. absurd (none q y)) }
  passes u us h (Some p) first = record {
    here = ⊎_elim
        (λ l. let e : u.place ≡ min u.place p = omega arith in subst (UseAt (u ∷ us) P) e (here u us h))
        (λ l. let e : p ≡ min u.place p = omega arith in subst (UseAt (u ∷ us) P) e (later u us p first.here))
        (cases_lt u.place p);
    least = λ q x. either u us q x (λ e _. omega arith) (λ y. let l = first.least q y in omega arith);
  }

  fails : (u : Use) (us : List Use) → (P u → ⊥) → (o : Option ℕ) → Told us o → Told (u ∷ us) o
  fails u us h None none = λ q x. either u us q x (λ _ k. h k) (none q)
  fails u us h (Some p) first = record { here = later u us p first.here; least = λ q x. either u us q x (λ _ k. absurd (h k)) (first.least q) }

  told : (us : List Use) → Told us (least (places_by test us))
  told [] = λ p x. x.collected
  told (u ∷ us) = go (test u) refl (told us)
    where
      go : (c : Bool) → test u ≡ c → Told us (least (places_by test us)) → Told (u ∷ us) (least (cond c (u.place ∷ places_by test us) (places_by test us)))
      go true e more = passes u us ((decides u).0 e) (least (places_by test us)) more
      go false e more = fails u us (λ h. both_ways (test u) e ((decides u).1 h)) (least (places_by test us)) more

  module _ (us : List Use) where
    first_from_least : (p : ℕ) → least (places_by test us) ≡ Some p → First (UseAt us P) p
    first_from_least p e = subst (Told us) e (told us)

    none_from_least : least (places_by test us) ≡ None → (p : ℕ) → UseAt us P p → ⊥
    none_from_least e = subst (Told us) e (told us)

    least_from_first : (p : ℕ) → First (UseAt us P) p → least (places_by test us) ≡ Some p
    least_from_first p f = go (least (places_by test us)) (told us)
      where
        go : (o : Option ℕ) → Told us o → o ≡ Some p
        go None none = absurd (none p f.here)
        go (Some q) first =
            let below = first.least p f.here in
            let above = f.least q first.here in
            let same : q ≡ p = omega arith in
            ap Some same

    least_from_none : ((p : ℕ) → UseAt us P p → ⊥) → least (places_by test us) ≡ None
    least_from_none f = go (least (places_by test us)) (told us)
      where
        go : (o : Option ℕ) → Told us o → o ≡ None
        go None none = refl
        go (Some q) first = absurd (f q first.here)

-- ---- uses of the own module whose root is not declared

occurs_member : (d : Text) (ds : List Text) → Member d ds → occurs same_text_of d ds ≡ true
occurs_member d [] m = absurd m
occurs_member d (x ∷ ds) (inl e) = or_left (same_text_of d x) (occurs same_text_of d ds) (ap (same_text_of d) (sym e) ∙ text_itself d)
occurs_member d (x ∷ ds) (inr m) = or_right (same_text_of d x) (occurs same_text_of d ds) (occurs_member d ds m)

member_occurs : (d : Text) (ds : List Text) → occurs same_text_of d ds ≡ true → Member d ds
member_occurs d [] h = absurd (false≢true h)
member_occurs d (x ∷ ds) h = ⊎_elim (λ e. inl (text-is d x e)) (λ e. inr (member_occurs d ds e)) (or_cases (same_text_of d x) (occurs same_text_of d ds) h)

module _ (own : Text) (ds : List Declared) where
  abbrev Lacking : Use → Type 0
  Lacking u = (u.from ≡ own) × (Member (root_of u.name) (map name_of ds) → ⊥)

  abbrev known : Use → Bool
  known u = occurs same_text_of (root_of u.name) (map name_of ds)

  lacks-Decides : (u : Use) → Exactly (lacks own (map name_of ds) u ≡ true) (Lacking u)
  lacks-Decides u = (to, from)
    where
      to : lacks own (map name_of ds) u ≡ true → Lacking u
      to e =
          let both = and_parts (same_text_of u.from own) (not (known u)) e in
          (text-is u.from own both.0, λ m. both_ways (known u) (not-true (known u) both.1) (occurs_member (root_of u.name) (map name_of ds) m))

      from : Lacking u → lacks own (map name_of ds) u ≡ true
      from h =
          and_from (same_text_of u.from own) (not (known u)) (ap (same_text_of u.from) (sym h.0) ∙ text_itself u.from)
          (not_from_false (known u) (⊎_elim (λ t. absurd (h.1 (member_occurs (root_of u.name) (map name_of ds) t))) (λ f. f) (cases_Bool (known u))))

  module _ (us : List Use) where
    pub undeclared-first : (p : ℕ) → least (undeclared own ds us) ≡ Some p → First (UndeclaredAt own ds us) p
    undeclared-first = first_from_least (lacks own (map name_of ds)) Lacking lacks-Decides us

    pub undeclared-none : least (undeclared own ds us) ≡ None → (p : ℕ) → UndeclaredAt own ds us p → ⊥
    undeclared-none = none_from_least (lacks own (map name_of ds)) Lacking lacks-Decides us

    pub first-undeclared : (p : ℕ) → First (UndeclaredAt own ds us) p → least (undeclared own ds us) ≡ Some p
    first-undeclared = least_from_first (lacks own (map name_of ds)) Lacking lacks-Decides us

    pub none-undeclared : ((p : ℕ) → UndeclaredAt own ds us p → ⊥) → least (undeclared own ds us) ≡ None
    none-undeclared = least_from_none (lacks own (map name_of ds)) Lacking lacks-Decides us

-- ---- where a reference is used

module _ (r : Reference) where
  abbrev Is : Use → Type 0
  Is u = reference_of u ≡ r

  is-Decides : (u : Use) → Exactly (same_reference (reference_of u) r ≡ true) (Is u)
  is-Decides u = (same-is (reference_of u) r, λ e. ap (same_reference (reference_of u)) (sym e) ∙ same_itself (reference_of u))

  module _ (us : List Use) where
    pub used_first : (p : ℕ) → least (use_places r us) ≡ Some p → First (UsedAt us r) p
    used_first = first_from_least (λ u. same_reference (reference_of u) r) Is is-Decides us

    pub used_none : least (use_places r us) ≡ None → (p : ℕ) → UsedAt us r p → ⊥
    used_none = none_from_least (λ u. same_reference (reference_of u) r) Is is-Decides us

    pub first_used : (p : ℕ) → First (UsedAt us r) p → least (use_places r us) ≡ Some p
    first_used = least_from_first (λ u. same_reference (reference_of u) r) Is is-Decides us
