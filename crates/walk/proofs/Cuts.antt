-- A part that is cut at the end of a slice, in the form in which a slice's parts come.
use Rattle.std.proofs.Common.{◌≡◌, ℕ, ◌-◌, min, List, length, take, drop, sym, ap, ◌∙◌, inl, inr, arith}
use Rattle.std.proofs.lemmas.List.{take_rest, take_all, drop_all}
use Rattle.std.proofs.lemmas.Bool.{cases_lt}

pub take-cut : (k l : ℕ) (xs : List ℕ) → l ≡ min k (length xs) → take (l - 0) xs ≡ take k xs
take-cut k l xs e =
    elim (cases_lt k (length xs)) [
      | inl h ↦ ap (λ i. take i xs) (omega arith)
      | inr h ↦ ap (λ i. take i xs) (omega arith) ∙ (take_all (length xs) xs (omega arith) ∙ sym (take_all k xs h))
    ]

pub drop-cut : (k l : ℕ) (xs : List ℕ) → l ≡ min k (length xs) → take (length xs - l) (drop l xs) ≡ drop k xs
drop-cut k l xs e =
    take_rest xs l ∙ elim (cases_lt k (length xs)) [
      | inl h ↦ ap (λ i. drop i xs) (omega arith)
      | inr h ↦ ap (λ i. drop i xs) (omega arith) ∙ (drop_all (length xs) xs (omega arith) ∙ sym (drop_all k xs h))
    ]
