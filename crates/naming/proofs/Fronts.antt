-- The digits that end a name, and what stands before them.
use Rattle.std.proofs.Common.{◌≡◌, ℕ, ◌+◌, ◌-◌, ◌<◌, ◌≤◌, true, false, leb, List, ◌∷◌, ◌++◌, length, get_or, take, drop, reverse, sym, ap, ◌∙◌, inl, inr, arith}
use Rattle.std.specs.Str.Parse.{AllDigits}
use Rattle.std.specs.Char.{is_ascii_digit}
use Rattle.std.specs.Int.{IsInRange}
use Rattle.std.specs.List.{suffix_len}
use Rattle.std.proofs.lemmas.List.{get_or_append_left, get_or-append_right, get_or-drop, get_or-reverse, get_or-take, length-append, length-drop, length-reverse, length-take-le}
use Rattle.std.proofs.lemmas.List.Sums.{prefix_len_passes, prefix_len_stops, suffix_len-le-length, suffix_len_is}
use Rattle.std.proofs.lemmas.Str.Parse.{digit_at, numerals_by_value, tells_by_index}
use Rattle.std.proofs.lemmas.Bool.{and_from, and_parts, cases_lt, false≢true, le-leb, leb-true}
use Rattle.naming.specs.Next.{front}

pub digits_within : (name : List ℕ) → suffix_len is_ascii_digit name ≤ length name
digits_within name = suffix_len-le-length is_ascii_digit name

pub front_le : (name : List ℕ) → front name ≤ length name
unfolding front
front_le name = omega arith

-- each byte from the front on is a digit, and the one before is none

passes : (name : List ℕ) (k : ℕ) → front name ≤ k → k < length name → is_ascii_digit (get_or name k 0) ≡ true
unfolding front
passes name k low high =
    let n = suffix_len-le-length is_ascii_digit name in
    let z : length name - 1 - (length name - 1 - k) ≡ k = omega arith in
    sym (ap is_ascii_digit (get_or-reverse name (length name - 1 - k) 0 (omega arith) ∙ ap (λ i. get_or name i 0) z))
    ∙ prefix_len_passes is_ascii_digit (reverse name) (length name - 1 - k) 0 (omega arith)

stops : (name : List ℕ) → 0 < front name → is_ascii_digit (get_or name (front name - 1) 0) ≡ false
unfolding front
stops name s =
    let z : length name - 1 - suffix_len is_ascii_digit name ≡ length name - suffix_len is_ascii_digit name - 1 = omega arith in
    sym (ap is_ascii_digit (get_or-reverse name (suffix_len is_ascii_digit name) 0 (omega arith) ∙ ap (λ i. get_or name i 0) z))
    ∙ prefix_len_stops is_ascii_digit (reverse name) 0 (omega (arith, length-reverse name))

-- and that fixes the front
front_is : (name : List ℕ) (n : ℕ) → n ≤ length name → ((k : ℕ) → n ≤ k → k < length name → is_ascii_digit (get_or name k 0) ≡ true) →
    (0 < n → is_ascii_digit (get_or name (n - 1) 0) ≡ false) → front name ≡ n
unfolding front
front_is name n l each before = let s = suffix_len_is is_ascii_digit name n 0 l each before in omega arith

pub front-some : (c : ℕ) (cs : List ℕ) → is_ascii_digit c ≡ false → 0 < front (c ∷ cs)
front-some c cs f =
    elim (cases_lt 0 (front (c ∷ cs))) [
      | inl l ↦ l
      | inr z ↦ absurd (false≢true (sym f ∙ passes (c ∷ cs) 0 z (omega arith)))
    ]

-- other digits in place of those that end the name
pub front_append : (name ds : List ℕ) → AllDigits 10 ds → front (take (front name) name ++ ds) ≡ front name
front_append name ds h =
    let le = front_le name in
    let n : length (take (front name) name) ≡ front name = length-take-le (front name) name le in
    let len = length-append (take (front name) name) ds in
    front_is (take (front name) name ++ ds) (front name) (omega arith)
    (λ k low high. ap is_ascii_digit (get_or-append_right (take (front name) name) ds (front name) k 0 n low) ∙ digit (k - front name) (omega arith))
    (λ s. ap is_ascii_digit (get_or_append_left (take (front name) name) ds 0 (front name - 1) (omega arith) ∙ get_or-take (front name) name (front name - 1) 0 (omega arith)) ∙ stops name s)
  where
    digit : (k : ℕ) → k < length ds → is_ascii_digit (get_or ds k 0) ≡ true
    digit k l = let i : IsInRange 48 57 (get_or ds k 0) = digit_at ds k h l in and_from (leb 48 (get_or ds k 0)) (leb (get_or ds k 0) 57) (le-leb _ _ i.0) (le-leb _ _ i.1)

pub front-digits : (name : List ℕ) → AllDigits 10 (drop (front name) name)
front-digits name =
    (numerals_by_value (λ ds. (i : ℕ) → i < length ds → IsInRange 48 57 (get_or ds i 0)) tells_by_index).to (drop (front name) name) (λ i l.
    let len = length-drop (front name) name in
    let t = passes name (front name + i) (omega arith) (omega arith) in
    let b = and_parts (leb 48 (get_or (drop (front name) name) i 0)) (leb (get_or (drop (front name) name) i 0) 57) (ap is_ascii_digit (get_or-drop (front name) name i 0) ∙ t) in
    (leb-true _ _ b.0, leb-true _ _ b.1))
