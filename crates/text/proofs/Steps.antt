-- The tests of the specs, in the words of the library.
use Rattle.std.proofs.Common.{◌≡◌, ℕ, suc, ◌+◌, ◌-◌, ◌<◌, Bool, false, cond, ◌&&◌, eqb, ◌⊎◌, None, Some, List, [], ◌∷◌, ◌++◌, length, get_or, take, drop, sym, refl, ap, ◌∙◌, inl, inr, append_assoc, arith}
use mathlib.Core.Bool.{false≢true}
use Rattle.std.specs.List.{list_all, onto_first, position, position_or_len, slice_split}
use Rattle.std.proofs.lemmas.Bool.{cases_Bool, cond-true, cond-false, eq-eqb, lt-ltb, ne_eqb}
use Rattle.std.proofs.lemmas.Bool.Decides.{nat_tests}
use Rattle.std.proofs.lemmas.List.{append-nil, take_rest}
use Rattle.std.proofs.lemmas.List.Recursion.{same_from_clauses, is_position_or_len}
use Rattle.text.specs.Names.{digit, every, first_byte, later_byte, spelled, identifier, parts}
use Rattle.text.specs.Numbers.{dot_at_of, fractional, natural, some_digits}

pub every-list_all : (test : ℕ → Bool) (s : List ℕ) → every test s ≡ list_all test s
every-list_all test s = same_from_clauses (every test) (list_all test) (λ b r. test b && r) refl (λ _ _. refl) (λ _ _. refl) s

pub spelled-cons : (s : List ℕ) → 0 < length s → spelled s ≡ (first_byte (get_or s 0 0) && list_all later_byte (take (length s - 1) (drop 1 s)))
spelled-cons [] l = absurd (omega arith)
spelled-cons (b ∷ bs) l = ap (λ t. first_byte b && t) (every-list_all later_byte bs ∙ ap (list_all later_byte) (sym (take_rest (b ∷ bs) 1)))

-- the parts between dots, where `part` stands before the first of them
abbrev before : List ℕ → List (List ℕ) → List (List ℕ)
before part [] = part ∷ []
before part (p ∷ ps) = (part ++ p) ∷ ps

before-first : (part : List ℕ) (b : ℕ) (ps : List (List ℕ)) → before (part ++ b ∷ []) ps ≡ before part (onto_first b ps)
before-first part b [] = refl
before-first part b (p ∷ ps) = ap (λ x. x ∷ ps) (append_assoc part (b ∷ []) p)

-- with nothing before it, the first part stays; and there is a first part
split-first : (s : List ℕ) → before [] (slice_split (λ b. eqb b 46) s) ≡ slice_split (λ b. eqb b 46) s
split-first [] = refl
split-first (b ∷ bs) =
    elim (cases_Bool (eqb b 46)) [ inl t ↦ rw t refl | inr t ↦ rw t (kept (slice_split (λ b. eqb b 46) bs)) ]
  where
    kept : (ps : List (List ℕ)) → before [] (onto_first b ps) ≡ onto_first b ps
    kept [] = refl
    kept (p ∷ ps) = refl

parts-before : (part s : List ℕ) → parts part s ≡ list_all identifier (before part (slice_split (λ b. eqb b 46) s))
parts-before part [] = rw append-nil grind arith
parts-before part (b ∷ bs) =
    elim (cases_Bool (eqb b 46)) [
      | inl t ↦ rw t (rw append-nil (ap (λ x. identifier part && x) (parts-before [] bs ∙ ap (list_all identifier) (split-first bs))))
      | inr t ↦ rw t (parts-before (part ++ b ∷ []) bs ∙ ap (list_all identifier) (before-first part b (slice_split (λ b. eqb b 46) bs)))
    ]

pub parts-split : (s : List ℕ) → parts [] s ≡ list_all identifier (slice_split (λ b. eqb b 46) s)
parts-split s = parts-before [] s ∙ ap (list_all identifier) (split-first s)

-- a number's digits, its first digit and its first dot

pub some_digits-rest : (s : List ℕ) → false ≡ eqb (length s) 0 → list_all digit s ≡ some_digits s
some_digits-rest [] e = absurd (false≢true e)
some_digits-rest (b ∷ bs) e = sym (every-list_all digit (b ∷ bs))

pub natural-zero : (s : List ℕ) → 0 < length s → get_or s 0 0 ≡ 48 → eqb (length (take (length s - 1) (drop 1 s))) 0 ≡ natural s
natural-zero [] l e = absurd (omega arith)
natural-zero (b ∷ bs) l e = ap (λ x. eqb (length x) 0) (take_rest (b ∷ bs) 1) ∙ sym (cond-true (eqb b 48) _ _ (eq-eqb b 48 e))

pub natural_other : (s : List ℕ) → (length s ≡ 0) ⊎ (get_or s 0 0 ≡ 48 → ⊥) → some_digits s ≡ natural s
natural_other [] h = refl
natural_other (b ∷ bs) (inl e) = absurd (omega arith)
natural_other (b ∷ bs) (inr ne) = sym (cond-false (eqb b 48) _ _ (ne_eqb b 48 ne))

dot_at-position : (s : List ℕ) → dot_at_of s ≡ position_or_len (λ b. eqb b 46) s
dot_at-position s = is_position_or_len dot_at_of (λ b. eqb b 46) refl (λ b bs. ap (cond (eqb b 46) 0) (omega arith)) s

dot_here : (s : List ℕ) (n : ℕ) → position (λ b. eqb b 46) s ≡ Some n → (n ≡ dot_at_of s) × (dot_at_of s < length s)
dot_here s n e = let d = dot_at-position s in grind (arith, nat_tests)

pub fractional-none : (s : List ℕ) → position (λ b. eqb b 46) s ≡ None → fractional s ≡ false
fractional-none s e = let d = dot_at-position s in grind (arith, nat_tests)

pub fractional-at : (s : List ℕ) (n : ℕ) → position (λ b. eqb b 46) s ≡ Some n →
    fractional s ≡ (some_digits (take n s) && some_digits (take (length s - (n + 1)) (drop (n + 1) s)))
fractional-at s n e =
    let h = dot_here s n e in
    ap (λ t. t && some_digits (take (dot_at_of s) s) && some_digits (drop (suc (dot_at_of s)) s)) (lt-ltb _ _ h.1)
    ∙ ap (λ m. some_digits (take m s) && some_digits (drop (suc m) s)) (sym h.0)
    ∙ ap (λ x. some_digits (take n s) && some_digits x) (ap (λ m. drop m s) (let z : suc n ≡ n + 1 = omega arith in z) ∙ sym (take_rest s (n + 1)))
