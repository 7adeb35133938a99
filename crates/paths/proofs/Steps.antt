-- Where two names part: from how many leading bytes they have in common, and where the last dot among those stands.
use Rattle.std.proofs.Common.{◌≡◌, ℕ, zero, suc, ◌+◌, ◌<◌, ◌≤◌, Bool, true, false, cond, eqb, ◌⊎◌, List, [], ◌∷◌, length, get_or, take, Some, None, Option, sym, refl, ap, ◌∙◌, subst, inl, inr, arith, IfSome, MatchOption}
use Rattle.std.specs.List.{common_prefix_len, filter, prefix_len, zip}
use Rattle.std.proofs.lemmas.Bool.{cases_Bool, cond-true, cond-false, eq-eqb, eqb-true, eqb-false, ne_eqb}
use Rattle.paths.specs.Shared.{dots_in, shared, shared_from}

pub prefix_len-zip : (bs ts : List ℕ) → prefix_len (λ (p : ℕ × ℕ). eqb p.0 p.1) (zip bs ts) ≡ common_prefix_len eqb bs ts
prefix_len-zip [] ts = refl
prefix_len-zip (b ∷ bs) [] = refl
prefix_len-zip (b ∷ bs) (t ∷ ts) = ap (λ k. cond (eqb b t) (1 + k) 0) (prefix_len-zip bs ts)

-- the same, one more at a time
abbrev parted : List ℕ → List ℕ → ℕ
parted [] ts = 0
parted (b ∷ bs) [] = 0
parted (b ∷ bs) (t ∷ ts) = cond (eqb b t) (suc (parted bs ts)) 0

parted-is : (bs ts : List ℕ) → common_prefix_len eqb bs ts ≡ parted bs ts
parted-is [] ts = refl
parted-is (b ∷ bs) [] = refl
parted-is (b ∷ bs) (t ∷ ts) = ap (λ k. cond (eqb b t) k 0) (let h = parted-is bs ts in let z : 1 + common_prefix_len eqb bs ts ≡ suc (parted bs ts) = omega arith in z)

pub dots_in-filter : (s : List ℕ) → filter (λ b. eqb b 46) s ≡ dots_in s
dots_in-filter [] = refl
dots_in-filter (b ∷ bs) =
    elim (cases_Bool (eqb b 46)) [
      | inl t ↦ rw (t, eqb-true b 46 t, dots_in-filter bs) refl
      | inr t ↦ rw (t, dots_in-filter bs) refl
    ]

-- a part of the name ends there
abbrev pub EndsAt : List ℕ → ℕ → Type 0
EndsAt s n = (length s ≤ n) ⊎ (get_or s n 0 ≡ 46)

ends_on : (b : ℕ) (s : List ℕ) (n : ℕ) → EndsAt (b ∷ s) (suc n) → EndsAt s n
ends_on b s n (inl l) = inl (omega arith)
ends_on b s n (inr e) = inr e

ends_back : (b : ℕ) (s : List ℕ) (n : ℕ) → EndsAt s n → EndsAt (b ∷ s) (suc n)
ends_back b s n (inl l) = inl (omega arith)
ends_back b s n (inr e) = inr e

ends_here : (b : ℕ) (s : List ℕ) → EndsAt (b ∷ s) 0 → b ≡ 46
ends_here b s (inl l) = absurd (omega arith)
ends_here b s (inr e) = e

-- both end where they part

both_end : (i : ℕ) (last : Option ℕ) (bs ts : List ℕ) → EndsAt bs (parted bs ts) → EndsAt ts (parted bs ts) →
    shared_from i last bs ts ≡ Some (i + parted bs ts)
both_end i last [] [] e f = ap Some (omega arith)
both_end i last [] (t ∷ ts) e f = cond-true _ _ _ (eq-eqb _ _ (ends_here t ts f)) ∙ ap Some (omega arith)
both_end i last (b ∷ bs) [] e f = cond-true _ _ _ (eq-eqb _ _ (ends_here b bs e)) ∙ ap Some (omega arith)
both_end i last (b ∷ bs) (t ∷ ts) e f = go (eqb b t) refl e f (both_end (suc i) (cond (eqb b 46) (Some i) last) bs ts)
  where
    go : (same : Bool) → eqb b t ≡ same → EndsAt (b ∷ bs) (cond same (suc (parted bs ts)) 0) → EndsAt (t ∷ ts) (cond same (suc (parted bs ts)) 0) →
        (EndsAt bs (parted bs ts) → EndsAt ts (parted bs ts) → shared_from (suc i) (cond (eqb b 46) (Some i) last) bs ts ≡ Some (suc i + parted bs ts)) →
        cond same (shared_from (suc i) (cond (eqb b 46) (Some i) last) bs ts) last ≡ Some (i + cond same (suc (parted bs ts)) 0)
    go true s e f h = h (ends_on b bs _ e) (ends_on t ts _ f) ∙ ap Some (omega arith)
    go false s e f h = absurd (eqb-false b t s (ends_here b bs e ∙ sym (ends_here t ts f)))

-- the last dot of s, which begins at place i, and otherwise `last`
abbrev last_of : ℕ → Option ℕ → List ℕ → Option ℕ
last_of i last [] = last
last_of i last (b ∷ bs) = last_of (suc i) (cond (eqb b 46) (Some i) last) bs

not_both : (i : ℕ) (last : Option ℕ) (bs ts : List ℕ) → (EndsAt bs (parted bs ts) → EndsAt ts (parted bs ts) → ⊥) →
    shared_from i last bs ts ≡ last_of i last (take (parted bs ts) bs)
not_both i last [] [] n = absurd (n (inl (omega arith)) (inl (omega arith)))
not_both i last [] (t ∷ ts) n = cond-false _ _ _ (ne_eqb _ _ (λ e. n (inl (omega arith)) (inr e)))
not_both i last (b ∷ bs) [] n = cond-false _ _ _ (ne_eqb _ _ (λ e. n (inr e) (inl (omega arith))))
not_both i last (b ∷ bs) (t ∷ ts) n = go (eqb b t) n (not_both (suc i) (cond (eqb b 46) (Some i) last) bs ts)
  where
    go : (same : Bool) → (EndsAt (b ∷ bs) (cond same (suc (parted bs ts)) 0) → EndsAt (t ∷ ts) (cond same (suc (parted bs ts)) 0) → ⊥) →
        ((EndsAt bs (parted bs ts) → EndsAt ts (parted bs ts) → ⊥) →
        shared_from (suc i) (cond (eqb b 46) (Some i) last) bs ts ≡ last_of (suc i) (cond (eqb b 46) (Some i) last) (take (parted bs ts) bs)) →
        cond same (shared_from (suc i) (cond (eqb b 46) (Some i) last) bs ts) last ≡ last_of i last (take (cond same (suc (parted bs ts)) 0) (b ∷ bs))
    go true n h = h (λ e f. n (ends_back b bs _ e) (ends_back t ts _ f))
    go false n h = refl

last-none : (i : ℕ) (last : Option ℕ) (s : List ℕ) → ((k : ℕ) → k < length s → get_or s k 0 ≡ 46 → ⊥) → last_of i last s ≡ last
last-none i last [] n = refl
last-none i last (b ∷ bs) n =
    last-none (suc i) _ bs (λ k l. n (suc k) (omega arith)) ∙ cond-false _ _ _ (ne_eqb b 46 (n 0 (omega arith)))

last-some : (i : ℕ) (last : Option ℕ) (s : List ℕ) (j : ℕ) → j < length s → get_or s j 0 ≡ 46 → ((k : ℕ) → j < k → k < length s → get_or s k 0 ≡ 46 → ⊥) →
    last_of i last s ≡ Some (i + j)
last-some i last [] j l e n = absurd (omega arith)
last-some i last (b ∷ bs) zero l e n =
    last-none (suc i) _ bs (λ k m. n (suc k) (omega arith) (omega arith)) ∙ cond-true _ _ _ (eq-eqb b 46 e) ∙ ap Some (omega arith)
last-some i last (b ∷ bs) (suc j) l e n =
    last-some (suc i) _ bs j (omega arith) e (λ k m h. n (suc k) (omega arith) (omega arith)) ∙ ap Some (omega arith)

-- where the last dot stands, as the code says it
abbrev pub IsLastDot : List ℕ → Option ℕ → Type 0
IsLastDot s r =
    MatchOption r ((k : ℕ) → k < length s → get_or s k 0 ≡ 46 → ⊥) (λ i. (i < length s) × (get_or s i 0 ≡ 46) × ((k : ℕ) → i < k → k < length s → get_or s k 0 ≡ 46 → ⊥))

pub last_within : (s : List ℕ) (r : Option ℕ) (m n : ℕ) → IsLastDot s r → length s ≤ m → length s ≤ n → IfSome r (λ i. (i ≤ m) × (i ≤ n))
last_within s None m n h l k = tt
last_within s (Some i) m n h l k = (omega (arith, h.0), omega (arith, h.0))

last-is : (s : List ℕ) (r : Option ℕ) → IsLastDot s r → last_of 0 None s ≡ r
last-is s None h = last-none 0 None s h
last-is s (Some j) h = last-some 0 None s j h.0 h.1 h.2 ∙ ap Some (omega arith)

pub shared-ends : (bs ts : List ℕ) (n : ℕ) → n ≡ common_prefix_len eqb bs ts → EndsAt bs n → EndsAt ts n → Some n ≡ shared bs ts
shared-ends bs ts n is e f =
    let p : n ≡ parted bs ts = is ∙ parted-is bs ts in
    ap Some (omega arith) ∙ sym (both_end 0 None bs ts (subst (EndsAt bs) p e) (subst (EndsAt ts) p f))

pub shared-last : (bs ts : List ℕ) (n : ℕ) (r : Option ℕ) → n ≡ common_prefix_len eqb bs ts → (EndsAt bs n → EndsAt ts n → ⊥) → IsLastDot (take n bs) r → r ≡ shared bs ts
shared-last bs ts n r is h d =
    let p : n ≡ parted bs ts = is ∙ parted-is bs ts in
    sym (last-is (take n bs) r d)
    ∙ ap (λ m. last_of 0 None (take m bs)) p
    ∙ sym (not_both 0 None bs ts (λ e f. h (subst (EndsAt bs) (sym p) e) (subst (EndsAt ts) (sym p) f)))
