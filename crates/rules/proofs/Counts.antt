-- How many different keys there are does not depend on their order, so that no place is over a limit exactly if all the keys
-- together are within it.
use Rattle.std.proofs.Common.{◌≡◌, ℕ, ◌+◌, ◌≤◌, Bool, true, false, cond, ◌||◌, ltb, ◌↔◌, List, [], ◌∷◌, ◌++◌, map, Decides, sym, refl, ap, ◌∙◌, subst, inl, inr, append-nil, arith}
use Rattle.std.specs.List.{AllByRecursion}
use mathlib.Core.Logic.Iff
use mathlib.Core.List.{map-map}
use Rattle.std.proofs.lemmas.Bool.{cases_Bool, ltb-false, le-ltb, both_ways}
use Rattle.std.proofs.lemmas.Slice.Eq.{compares_Decides}
use Rattle.std.proofs.lemmas.Bool.Decides.{Decides-and, Decides-like}
use Rattle.model.specs.Tree.{Module, pymodule}
use Rattle.model.specs.Uses.{collected, declarations}
use Rattle.model.specs.Limits.{Keyed, occurs, distinct, over_after, over, same_text_of, same_reference, use_key, declared_key, surplus_uses, surplus_declared_of}
use Rattle.model.specs.Verdict.{surplus_in_file, surplus_in_files}
use Rattle.rules.specs.Meets.{declared_names, references}
use Rattle.rules.proofs.Empty.{append_nil_both, cond_nil, all_nil, all_both}

abbrev pub keys : {K : Type 0} → List (Keyed K) → List K
keys xs = map (λ x. x.key) xs

abbrev pub Same : {K : Type 0} → (K → K → Bool) → Type 0
Same {K} same = (x y : K) → Decides (same x y) (x ≡ y)

module _ {K : Type 0} (same : K → K → Bool) (decides : Same same) where
  swapped : (x y : K) → same x y ≡ false → same y x ≡ false
  swapped x y e = elim (cases_Bool (same y x)) [
    | inl t ↦ absurd (both_ways (same x y) e ((decides x y).1 (sym ((decides y x).0 t))))
    | inr f ↦ f
  ]

  occurs_move : (x y : K) (xs ys : List K) → occurs same x (xs ++ y ∷ ys) ≡ (same x y || occurs same x (xs ++ ys))
  occurs_move x y [] ys = refl
  occurs_move x y (z ∷ xs) ys = ap (λ b. same x z || b) (occurs_move x y xs ys) ∙ turn (same x z) (same x y) (occurs same x (xs ++ ys))
    where
      turn : (a b c : Bool) → (a || (b || c)) ≡ (b || (a || c))
      turn true true c = refl
      turn true false c = refl
      turn false true c = refl
      turn false false c = refl

  distinct_move : (xs ys : List K) (y : K) → distinct same (xs ++ y ∷ ys) ≡ distinct same (y ∷ (xs ++ ys))
  distinct_move [] ys y = refl
  distinct_move (x ∷ xs) ys y =
      let n = distinct same (xs ++ ys) in
      let step : distinct same (x ∷ (xs ++ y ∷ ys)) ≡ cond (same x y || occurs same x (xs ++ ys)) 0 1 + (cond (occurs same y (xs ++ ys)) 0 1 + n) = rw (occurs_move x y xs ys, distinct_move xs ys y) refl in
      step ∙ elim (cases_Bool (same x y)) [
        | inl t ↦ (let e : x ≡ y = (decides x y).0 t in let u : same y x ≡ true = (decides y x).1 (sym e) in rw (t, u) (ap (λ z. 0 + (cond (occurs same z (xs ++ ys)) 0 1 + n)) (sym e)))
        | inr f ↦ rw (f, swapped x y f) (omega arith)
      ]

  -- the keys seen in the end, the newest first
  abbrev onto : List K → List (Keyed K) → List K
  onto seen [] = seen
  onto seen (x ∷ xs) = onto (x.key ∷ seen) xs

  onto_more : (seen : List K) (xs : List (Keyed K)) → distinct same seen ≤ distinct same (onto seen xs)
  onto_more seen [] = omega arith
  onto_more seen (x ∷ xs) = omega (arith, onto_more (x.key ∷ seen) xs)

  onto_distinct : (seen : List K) (xs : List (Keyed K)) → distinct same (onto seen xs) ≡ distinct same (keys xs ++ seen)
  onto_distinct seen [] = refl
  onto_distinct seen (x ∷ xs) = onto_distinct (x.key ∷ seen) xs ∙ distinct_move (keys xs) seen x.key

  over-after : (limit : ℕ) (seen : List K) (xs : List (Keyed K)) → distinct same seen ≤ limit → (over_after same limit seen xs ≡ []) ↔ (distinct same (onto seen xs) ≤ limit)
  over-after limit seen [] h = (λ e. h, λ e. refl)
  over-after limit seen (x ∷ xs) h =
      let next : List K = x.key ∷ seen in
      let both = append_nil_both (cond (ltb limit (distinct same next)) (x.place ∷ []) []) (over_after same limit next xs) in
      let here = cond_nil (ltb limit (distinct same next)) x.place in (
        λ e. (over-after limit next xs (ltb-false limit (distinct same next) (here.0 (both.0 e).0))).0 (both.0 e).1,
        λ l. let k : distinct same next ≤ limit = omega (arith, onto_more next xs) in both.1 (here.1 (le-ltb limit (distinct same next) k), (over-after limit next xs k).1 l),
      )

  pub over_nil : (limit : ℕ) (xs : List (Keyed K)) → (over same limit xs ≡ []) ↔ (distinct same (keys xs) ≤ limit)
  over_nil limit xs =
      let e : distinct same (onto [] xs) ≡ distinct same (keys xs) = onto_distinct [] xs ∙ ap (distinct same) (append-nil (keys xs)) in
      let h = over-after limit [] xs (omega arith) in
      (λ z. subst (λ n. n ≤ limit) e (h.0 z), λ z. h.1 (subst (λ n. n ≤ limit) (sym e) z))

pub same_text : Same same_text_of
same_text xs ys = compares_Decides same_text_of (record { empty = refl; shorter = λ y ys. refl; longer = λ x xs. refl; heads = λ x y xs ys. refl }) xs ys

pub same-reference : Same same_reference
same-reference x y =
    Decides-like (same_reference x y) (λ h. (λ i. (h.0 i, h.1 i))) (λ e. (ap (λ z. z.0) e, ap (λ z. z.1) e))
    (Decides-and (same_text_of x.0 y.0) (same_text_of x.1 y.1) (same_text x.0 y.0) (same_text x.1 y.1))

-- the two limits of a file
abbrev pub DeclaresFew : Module → Type 0
DeclaresFew f = distinct same_text_of (declared_names f) ≤ 512

abbrev pub RefersFew : Module → Type 0
RefersFew f = distinct same_reference (references f) ≤ 512

over_keyed : {A K : Type 0} (same : K → K → Bool) → Same same → (limit : ℕ) (key : A → Keyed K) (xs : List A) → (over same limit (map key xs) ≡ []) ↔ (distinct same (map (λ x. (key x).key) xs) ≤ limit)
over_keyed same decides limit key xs =
    subst (λ ks. (over same limit (map key xs) ≡ []) ↔ (distinct same ks ≤ limit)) (map-map (λ x. x.key) key xs) (over_nil same decides limit (map key xs))

file_nil : (f : Module) → (surplus_in_file f ≡ []) ↔ (DeclaresFew f × RefersFew f)
file_nil (pymodule p s modules own classes functions attributes) =
    let ds = declarations classes functions attributes in
    let us = collected classes functions attributes in
    Iff.trans (append_nil_both (surplus_declared_of ds) (surplus_uses us)) (Iff.and (over_keyed same_text_of same_text 512 declared_key ds) (over_keyed same_reference same-reference 512 use_key us))

pub files_nil : (fs : List Module) → (surplus_in_files fs ≡ []) ↔ (AllByRecursion DeclaresFew fs × AllByRecursion RefersFew fs)
files_nil fs = Iff.trans (all_nil surplus_in_file (λ f. DeclaresFew f × RefersFew f) surplus_in_files file_nil refl (λ _ _. refl) fs) (all_both DeclaresFew RefersFew fs)
