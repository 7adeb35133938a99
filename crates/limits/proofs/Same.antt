-- Keys that an order of the code does not tell apart are those of the same values, so they repeat at the same places.
use Rattle.std.proofs.Common.{◌≡◌, ℕ, ◌+◌, Bool, cond, ◌&&◌, ◌||◌, ltb, List, [], ◌∷◌, ◌++◌, map, Some, None, Option, Ordering, Less, Equal, Greater, refl, ap, ◌∙◌}
use Rattle.std.specs.Ordering.{is_eq, ordering_then, nat_cmp}
use Rattle.std.specs.Cmp.{unsigned_tied}
use Rattle.std.specs.Cmp.Lexicographic.{slice_cmp}
use Rattle.std.specs.Option.{option_cmp}
use Rattle.model.specs.Limits.{Keyed, occurs, distinct, repeats, repeats_after, over, over_after, same_text_of, same_holder}
use Rattle.model.specs.Rules.{least}
use Rattle.limits.specs.Entries.{keyed}

pub then_ties : (a b : Ordering) → is_eq (ordering_then a b) ≡ (is_eq a && is_eq b)
then_ties Less b = refl
then_ties Equal b = refl
then_ties Greater b = refl

pub text_ties : (xs ys : List ℕ) → is_eq (slice_cmp nat_cmp xs ys) ≡ same_text_of xs ys
text_ties [] [] = refl
text_ties [] (y ∷ ys) = refl
text_ties (x ∷ xs) [] = refl
text_ties (x ∷ xs) (y ∷ ys) =
    then_ties (nat_cmp x y) (slice_cmp nat_cmp xs ys) ∙ (λ i. unsigned_tied x y i && text_ties xs ys i)

pub holder_ties : (p q : Option ℕ) → is_eq (option_cmp nat_cmp p q) ≡ same_holder p q
holder_ties None None = refl
holder_ties None (Some y) = refl
holder_ties (Some x) None = refl
holder_ties (Some x) (Some y) = unsigned_tied x y

module _ {K B : Type 0} (e : K → K → Bool) (same : B → B → Bool) (f : K → B) (agree : (x y : K) → e x y ≡ same (f x) (f y)) where
  occurs_same : (k : K) (seen : List K) → occurs e k seen ≡ occurs same (f k) (map f seen)
  occurs_same k [] = refl
  occurs_same k (x ∷ xs) = λ i. agree k x i || occurs_same k xs i

  distinct_same : (seen : List K) → distinct e seen ≡ distinct same (map f seen)
  distinct_same [] = refl
  distinct_same (x ∷ xs) = λ i. cond (occurs_same x xs i) 0 1 + distinct_same xs i

  module _ {A : Type 0} (place : A → ℕ) (key : A → K) where
    abbrev pub entry : A → Keyed B
    entry a = record { place = place a; key = f (key a) }

    repeats_same : (seen : List K) (xs : List A) → repeats_after e seen (map (keyed place key) xs) ≡ repeats_after same (map f seen) (map entry xs)
    repeats_same seen [] = refl
    repeats_same seen (x ∷ xs) = λ i. cond (occurs_same (key x) seen i) (place x ∷ []) [] ++ repeats_same (key x ∷ seen) xs i

    over_same : (limit : ℕ) (seen : List K) (xs : List A) → over_after e limit seen (map (keyed place key) xs) ≡ over_after same limit (map f seen) (map entry xs)
    over_same limit seen [] = refl
    over_same limit seen (x ∷ xs) = λ i. cond (ltb limit (distinct_same (key x ∷ seen) i)) (place x ∷ []) [] ++ over_same limit (key x ∷ seen) xs i

    -- the same entries, as the rules have them
    module _ {C : Type 0} (h : C → Keyed B) (g : A → C) (fits : (a : A) → entry a ≡ h (g a)) where
      entries_fit : (xs : List A) → map entry xs ≡ map h (map g xs)
      entries_fit [] = refl
      entries_fit (x ∷ xs) = λ i. fits x i ∷ entries_fit xs i

      pub repeats_fit : (xs : List A) → least (repeats e (map (keyed place key) xs)) ≡ least (repeats same (map h (map g xs)))
      repeats_fit xs = ap least (repeats_same [] xs ∙ ap (repeats same) (entries_fit xs))

      pub over_fit : (limit : ℕ) (xs : List A) → least (over e limit (map (keyed place key) xs)) ≡ least (over same limit (map h (map g xs)))
      over_fit limit xs = ap least (over_same limit [] xs ∙ ap (over same limit) (entries_fit xs))
