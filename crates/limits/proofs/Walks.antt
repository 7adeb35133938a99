-- A walk over entries: what the set of keys and the least place are after some of them.
use Rattle.std.proofs.Common.{◌≡◌, ℕ, ◌+◌, ◌<◌, ◌≤◌, Bool, true, false, cond, not, ◌||◌, ltb, ◌⊎◌, List, [], ◌∷◌, ◌++◌, map, length, get_or, take, Some, None, Option, Ordering, sym, refl, ap, ◌∙◌, subst, inl, inr, append_assoc, append-nil, add_comm, arith, lt-ltb, le-ltb, take_all}
use Rattle.std.proofs.lemmas.List.{take_more, map-append}
use Rattle.std.specs.Cmp.{IsTotalOrder, eq_by_cmp_equiv}
use Rattle.std.specs.Ordering.{eq_by_cmp, is_eq}
use Rattle.std.specs.List.{list_any}
use Rattle.std.specs.BTreeSet.{BTreeSet, IsEmpty, IsOrdered, Updates, contains, btree_set_len}
use Rattle.model.specs.Limits.{Keyed, occurs, distinct, repeats, repeats_after, over, over_after}
use Rattle.model.specs.Rules.{least, sooner, soonest}

-- ---- the places

swapped : (q p : ℕ) (o : Option ℕ) → sooner q (Some (sooner p o)) ≡ sooner p (Some (sooner q o))
swapped q p None = omega arith
swapped q p (Some m) = omega arith

least_push : (ps : List ℕ) (p : ℕ) → least (ps ++ p ∷ []) ≡ Some (sooner p (least ps))
least_push [] p = refl
least_push (q ∷ ps) p = ap (λ o. Some (sooner q o)) (least_push ps p) ∙ ap Some (swapped q p (least ps))

-- the least place with that of an entry that shows, or without that of one that does not
abbrev pub with_place : Bool → ℕ → Option ℕ → Option ℕ
with_place b p o = cond b (Some (sooner p o)) o

least_more : (ps : List ℕ) (p : ℕ) (b : Bool) → least (ps ++ cond b (p ∷ []) []) ≡ with_place b p (least ps)
least_more ps p true = least_push ps p
least_more ps p false = ap least (append-nil ps)

-- the keys of entries, newest first, before those that `seen` has
abbrev pub seen_in : {K : Type 0} → List K → List (Keyed K) → List K
seen_in seen [] = seen
seen_in seen (x ∷ xs) = seen_in (x.key ∷ seen) xs

module _ {K : Type 0} where
  seen_push : (seen : List K) (xs : List (Keyed K)) (x : Keyed K) → seen_in seen (xs ++ x ∷ []) ≡ x.key ∷ seen_in seen xs
  seen_push seen [] x = refl
  seen_push seen (y ∷ ys) x = seen_push (y.key ∷ seen) ys x

module _ {K : Type 0} (e : K → K → Bool) where
  repeats_push : (seen : List K) (xs : List (Keyed K)) (x : Keyed K)
      → repeats_after e seen (xs ++ x ∷ []) ≡ repeats_after e seen xs ++ cond (occurs e x.key (seen_in seen xs)) (x.place ∷ []) []
  repeats_push seen [] x = append-nil (cond (occurs e x.key seen) (x.place ∷ []) [])
  repeats_push seen (y ∷ ys) x =
      let here = cond (occurs e y.key seen) (y.place ∷ []) [] in
      ap (λ t. here ++ t) (repeats_push (y.key ∷ seen) ys x) ∙ sym (append_assoc here (repeats_after e (y.key ∷ seen) ys) _)

  over_push : (limit : ℕ) (seen : List K) (xs : List (Keyed K)) (x : Keyed K)
      → over_after e limit seen (xs ++ x ∷ []) ≡ over_after e limit seen xs ++ cond (ltb limit (distinct e (x.key ∷ seen_in seen xs))) (x.place ∷ []) []
  over_push limit seen [] x = append-nil (cond (ltb limit (distinct e (x.key ∷ seen))) (x.place ∷ []) [])
  over_push limit seen (y ∷ ys) x =
      let here = cond (ltb limit (distinct e (y.key ∷ seen))) (y.place ∷ []) [] in
      ap (λ t. here ++ t) (over_push limit (y.key ∷ seen) ys x) ∙ sym (append_assoc here (over_after e limit (y.key ∷ seen) ys) _)

-- ---- the keys

not_twice : (b : Bool) → not (not b) ≡ b
not_twice true = refl
not_twice false = refl

cond_or : (a b : Bool) → cond a true b ≡ (a || b)
cond_or true b = refl
cond_or false b = refl

one_more : (new found : Bool) (m : ℕ) → not new ≡ found → m + cond new 1 0 ≡ cond found 0 1 + m
one_more true found m e = add_comm m 1 ∙ ap (λ b. cond b 0 1 + m) e
one_more false found m e = add_comm m 0 ∙ ap (λ b. cond b 0 1 + m) e

module _ {K : Type 0} (R : K → K → Ordering) where
  -- the set has the keys that came
  pub record Kept (xs : List (Keyed K)) (s : BTreeSet K) : Type 0 where
    pub lawful : IsOrdered R s
    pub holds : (q : K) → contains R s q ≡ occurs (eq_by_cmp R) q (seen_in [] xs)
    pub count : btree_set_len s ≡ distinct (eq_by_cmp R) (seen_in [] xs)

  -- the set has them, and the least place of a repeat is known
  pub record Repeated (xs : List (Keyed K)) (s : BTreeSet K) (p : Option ℕ) : Type 0 where
    pub kept : Kept xs s
    pub least_is : p ≡ least (repeats (eq_by_cmp R) xs)

  -- more keys came than the limit allows, and the set has enough of them to tell so
  pub record Full (limit : ℕ) (xs : List (Keyed K)) (s : BTreeSet K) : Type 0 where
    pub lawful : IsOrdered R s
    pub told : limit < btree_set_len s
    pub came : limit < distinct (eq_by_cmp R) (seen_in [] xs)

  pub record Surplus (limit : ℕ) (xs : List (Keyed K)) (s : BTreeSet K) (p : Option ℕ) : Type 0 where
    pub known : Kept xs s ⊎ Full limit xs s
    pub least_is : p ≡ least (over (eq_by_cmp R) limit xs)

module _ {K : Type 0} {R : K → K → Ordering} (o : IsTotalOrder R) where
  pub kept_none : (s : BTreeSet K) → IsEmpty s → IsOrdered R s → Kept R [] s
  kept_none s none ordered = record { lawful = ordered; holds = λ q. ap (λ ks. list_any (λ k. is_eq (R q k)) ks) none; count = ap length none }

  -- one key more
  kept_more : (x : Keyed K) (xs : List (Keyed K)) (s n : BTreeSet K) (new : Bool)
      → new ≡ not (contains R s x.key) → Updates R s n x.key true → btree_set_len n ≡ btree_set_len s + cond new 1 0 → IsOrdered R n
      → Kept R xs s → Kept R (xs ++ x ∷ []) n × (not new ≡ occurs (eq_by_cmp R) x.key (seen_in [] xs))
  kept_more x xs s n new added put counted ordered h =
      let seen = seen_in [] xs in
      let e = eq_by_cmp R in
      let pushed = seen_push [] xs x in
      let old : not new ≡ occurs e x.key seen = ap not added ∙ not_twice (contains R s x.key) ∙ h.holds x.key in (
        record {
          lawful = ordered;
          holds = λ q. put.0 q ∙ (λ i. cond ((eq_by_cmp_equiv o).symm x.key q i) true (h.holds q i)) ∙ cond_or (e q x.key) (occurs e q seen) ∙ ap (occurs e q) (sym pushed);
          count = counted ∙ ap (λ m. m + cond new 1 0) h.count ∙ one_more new (occurs e x.key seen) (distinct e seen) old ∙ ap (distinct e) (sym pushed);
        },
        old,
      )

  pub repeated_more : (x : Keyed K) (xs : List (Keyed K)) (s n : BTreeSet K) (new : Bool) (p q : Option ℕ)
      → new ≡ not (contains R s x.key) → Updates R s n x.key true → btree_set_len n ≡ btree_set_len s + cond new 1 0 → IsOrdered R n
      → q ≡ with_place (not new) x.place p
      → Repeated R xs s p → Repeated R (xs ++ x ∷ []) n q
  repeated_more x xs s n new p q added put counted ordered noted h =
      let e = eq_by_cmp R in
      let step = kept_more x xs s n new added put counted ordered h.kept in
      record {
        kept = step.0;
        least_is = noted ∙ (λ i. with_place (step.1 i) x.place (h.least_is i))
            ∙ sym (ap least (repeats_push e [] xs x) ∙ least_more (repeats e xs) x.place (occurs e x.key (seen_in [] xs)));
      }

  -- a key that the set takes in
  pub surplus_more : (limit : ℕ) (x : Keyed K) (xs : List (Keyed K)) (s n : BTreeSet K) (new : Bool) (p q : Option ℕ)
      → btree_set_len s ≤ limit
      → new ≡ not (contains R s x.key) → Updates R s n x.key true → btree_set_len n ≡ btree_set_len s + cond new 1 0 → IsOrdered R n
      → q ≡ with_place (ltb limit (btree_set_len n)) x.place p
      → Surplus R limit xs s p → Surplus R limit (xs ++ x ∷ []) n q
  surplus_more limit x xs s n new p q room added put counted ordered noted h =
      let e = eq_by_cmp R in
      elim h.known [
        | inl kept ↦
            let step = kept_more x xs s n new added put counted ordered kept in
            let count : btree_set_len n ≡ distinct e (x.key ∷ seen_in [] xs) = step.0.count ∙ ap (distinct e) (seen_push [] xs x) in
            record {
              known = inl step.0;
              least_is = noted ∙ (λ i. with_place (ltb limit (count i)) x.place (h.least_is i))
                  ∙ sym (ap least (over_push e limit [] xs x) ∙ least_more (over e limit xs) x.place (ltb limit (distinct e (x.key ∷ seen_in [] xs))));
            }
        | inr full ↦ absurd (let told = full.told in omega (arith, room, told))
      ]

  -- the keys that came, if they are more than the limit allows, and one more
  came_more : (limit : ℕ) (k : K) (seen : List K) → limit < distinct (eq_by_cmp R) seen → limit < distinct (eq_by_cmp R) (k ∷ seen)
  came_more limit k seen l = omega (arith, l)

  came : (limit : ℕ) (xs : List (Keyed K)) (s : BTreeSet K) → limit < btree_set_len s → Kept R xs s ⊎ Full R limit xs s → limit < distinct (eq_by_cmp R) (seen_in [] xs)
  came limit xs s told (inl kept) = subst (λ m. limit < m) kept.count told
  came limit xs s told (inr full) = full.came

  -- a key that comes once the set has too many
  pub surplus_full : (limit : ℕ) (x : Keyed K) (xs : List (Keyed K)) (s : BTreeSet K) (p q : Option ℕ)
      → limit < btree_set_len s
      → IsOrdered R s
      → q ≡ Some (sooner x.place p)
      → Surplus R limit xs s p → Surplus R limit (xs ++ x ∷ []) s q
  surplus_full limit x xs s p q told ordered noted h =
      let e = eq_by_cmp R in
      let more = came_more limit x.key (seen_in [] xs) (came limit xs s told h.known) in
      record {
        known = inr record { lawful = ordered; told = told; came = subst (λ ks. limit < distinct e ks) (sym (seen_push [] xs x)) more };
        least_is = noted ∙ ap (λ o. Some (sooner x.place o)) h.least_is
            ∙ sym (ap least (over_push e limit [] xs x) ∙ least_more (over e limit xs) x.place (ltb limit (distinct e (x.key ∷ seen_in [] xs)))
            ∙ ap (λ b. with_place b x.place (least (over e limit xs))) (lt-ltb limit (distinct e (x.key ∷ seen_in [] xs)) more));
      }

-- ---- a loop over entries

-- its step
pub entries_more : {A K : Type 0} (f : A → Keyed K) (P : List (Keyed K) → Type 0) (xs : List A) (i : ℕ) (d : A) → i < length xs → d ≡ get_or xs i d → P (map f (take i xs) ++ f d ∷ []) → P (map f (take (i + 1) xs))
entries_more f P xs i d l is h =
    subst P (ap (λ a. map f (take i xs) ++ f a ∷ []) is ∙ sym (ap (map f) (take_more xs i d l) ∙ map-append f (take i xs) (get_or xs i d ∷ []))) h

-- its end
pub entries_all : {A K : Type 0} (f : A → Keyed K) (P : List (Keyed K) → Type 0) (xs : List A) (i : ℕ) → length xs ≤ i → P (map f (take i xs)) → P (map f xs)
entries_all f P xs i l h = subst (λ ys. P (map f ys)) (take_all i xs l) h

-- the least place, as the limit is tested
pub noted_over : (limit m place : ℕ) (p q : Option ℕ) → limit < m → q ≡ Some (sooner place p) → q ≡ with_place (ltb limit m) place p
noted_over limit m place p q l e = e ∙ ap (λ b. with_place b place p) (sym (lt-ltb limit m l))

pub noted_within : (limit m place : ℕ) (p q : Option ℕ) → m ≤ limit → q ≡ p → q ≡ with_place (ltb limit m) place p
noted_within limit m place p q l e = e ∙ ap (λ b. with_place b place p) (sym (le-ltb limit m l))

abbrev pub entry : {K : Type 0} → ℕ → K → Keyed K
entry p k = record { place = p; key = k }

-- the key that a set takes in is the entry's
pub with_key : {K : Type 0} (P : Keyed K → Type 0) (p : ℕ) (k l : K) → k ≡ l → P (entry p k) → P (entry p l)
with_key P p k l e h = subst (λ j. P (entry p j)) e h

-- the sooner of a find and a place that shows
pub soonest_place : (o : Option ℕ) (p : ℕ) → soonest o (Some p) ≡ Some (sooner p o)
soonest_place None p = refl
soonest_place (Some q) p = ap Some (omega arith)
