-- References that the order does not tell apart are the same.
use Rattle.std.proofs.Common.{◌≡◌, ℕ, true, ◌&&◌, eqb, List, [], ◌∷◌, Ordering, Less, Equal, Greater, sym, refl, ap, ◌∙◌}
use Rattle.std.specs.Ordering.{is_eq, ordering_then, nat_cmp}
use Rattle.std.specs.Cmp.{unsigned_tied}
use Rattle.std.specs.Cmp.Lexicographic.{slice_cmp}
use Rattle.std.proofs.lemmas.Bool.{and_from, and_parts, eqb-true, eq-eqb, false≢true}
use Rattle.std.specs.Str.{bytes_eq}
use Rattle.model.specs.Limits.{same_text_of, same_reference}
use Rattle.references.specs.References.{Reference, order}

pub same_bytes : (xs ys : List ℕ) → bytes_eq xs ys ≡ same_text_of xs ys
same_bytes [] [] = refl
same_bytes [] (y ∷ ys) = refl
same_bytes (x ∷ xs) [] = refl
same_bytes (x ∷ xs) (y ∷ ys) = ap (λ b. eqb x y && b) (same_bytes xs ys)

then_ties : (a b : Ordering) → is_eq (ordering_then a b) ≡ (is_eq a && is_eq b)
then_ties Less b = refl
then_ties Equal b = refl
then_ties Greater b = refl

pub text_ties : (xs ys : List ℕ) → is_eq (slice_cmp nat_cmp xs ys) ≡ same_text_of xs ys
text_ties [] [] = refl
text_ties [] (y ∷ ys) = refl
text_ties (x ∷ xs) [] = refl
text_ties (x ∷ xs) (y ∷ ys) =
    then_ties (nat_cmp x y) (slice_cmp nat_cmp xs ys) ∙ (λ i. unsigned_tied x y i && text_ties xs ys i)

pub order_ties : (x y : Reference) → is_eq (order x y) ≡ same_reference x y
order_ties x y =
    then_ties (slice_cmp nat_cmp x.0 y.0) (slice_cmp nat_cmp x.1 y.1) ∙ (λ i. text_ties x.0 y.0 i && text_ties x.1 y.1 i)

pub text_itself : (xs : List ℕ) → same_text_of xs xs ≡ true
text_itself [] = refl
text_itself (x ∷ xs) = and_from (eqb x x) (same_text_of xs xs) (eq-eqb x x refl) (text_itself xs)

pub same_itself : (x : Reference) → same_reference x x ≡ true
same_itself x = and_from (same_text_of x.0 x.0) (same_text_of x.1 x.1) (text_itself x.0) (text_itself x.1)

pub text-is : (xs ys : List ℕ) → same_text_of xs ys ≡ true → xs ≡ ys
text-is [] [] e = refl
text-is [] (y ∷ ys) e = absurd (false≢true e)
text-is (x ∷ xs) [] e = absurd (false≢true e)
text-is (x ∷ xs) (y ∷ ys) e =
    let both = and_parts (eqb x y) (same_text_of xs ys) e in
    λ i. eqb-true x y both.0 i ∷ text-is xs ys both.1 i

pub same-is : (x y : Reference) → same_reference x y ≡ true → x ≡ y
same-is x y e =
    let both = and_parts (same_text_of x.0 y.0) (same_text_of x.1 y.1) e in
    λ i. (text-is x.0 y.0 both.0 i, text-is x.1 y.1 both.1 i)

pub order_equal : (x y : Reference) → order x y ≡ Equal → x ≡ y
order_equal x y e = same-is x y (sym (order_ties x y) ∙ ap is_eq e)
