-- The number of a next name, and its spelling; so of each proposal.
use Rattle.std.proofs.Common.{◌≡◌, ℕ, zero, suc, ◌+◌, ◌^◌, ◌<◌, ◌≤◌, Bool, true, false, cond, eqb, List, [], ◌∷◌, ◌++◌, length, take, drop, Some, None, decimal, Option, sym, refl, ap, ◌∙◌, arith}
use Rattle.std.specs.Str.Parse.{AllDigits, digits_value}
use Rattle.std.specs.Char.{is_ascii_digit}
use Rattle.std.specs.Int.{IsInRange}
use Rattle.std.proofs.lemmas.Fmt.{decimal_nonempty, digits_decimal, digits_value-decimal}
use Rattle.std.proofs.lemmas.List.{drop_at, length-take-le}
use Rattle.std.proofs.lemmas.Str.Parse.{digit_from_value, numerals_by_value, tells_digits}
use Rattle.std.proofs.lemmas.Bool.{and_from, and_parts, eqb-false, false≢true}
use Rattle.std.proofs.lemmas.Bool.Decides.{nat_tests}
use Rattle.text.specs.Names.{every, first_byte, later_byte, spelled}
use Rattle.naming.specs.Next.{front, largest, counted, number, next_name, following, proposal}
use Rattle.naming.proofs.Fronts.{front_le, front-some, front_append}
use Rattle.naming.proofs.Values.{counted-within, counted_le}

-- what a next name is made of
next-parts : {C : Type 0} (name w : List ℕ) → next_name name ≡ Some w → (number name < largest → w ≡ take (front name) name ++ decimal (number name + 1) → C) → C
unfolding next_name number
next-parts {C} name w e use-it = go (eqb (number name) largest) refl e
  where
    go : (b : Bool) → eqb (number name) largest ≡ b → cond b None (Some (take (front name) name ++ decimal (number name + 1))) ≡ Some w → C
    go true t h = let z : ◌≡◌ {A = ℕ} 0 1 = cc in absurd (omega arith)
    go false t h =
        let ne = eqb-false (number name) largest t in
        let le : number name ≤ largest = counted_le (drop (front name) name) in
        use-it (omega arith) (cc)

decimal-digits : (n : ℕ) → n < 2 ^ 64 → AllDigits 10 (decimal n)
decimal-digits n h = digits_decimal (numerals_by_value (AllDigits 10) tells_digits) n h

number_append : (p : List ℕ) (n : ℕ) → front (p ++ decimal n) ≡ length p → n < 2 ^ 64 → number (p ++ decimal n) ≡ n
unfolding number
number_append p n f h =
    let v : digits_value 10 (decimal n) ≡ n = digits_value-decimal (numerals_by_value (AllDigits 10) tells_digits) n h in
    ap (λ k. counted (drop k (p ++ decimal n))) f
    ∙ (ap counted (drop_at p (decimal n) (length p) refl)
    ∙ (counted-within (decimal n) (decimal_nonempty n h) (omega arith) ∙ v))

pub next-number : (name w : List ℕ) → next_name name ≡ Some w → number w ≡ number name + 1
next-number name w e = next-parts name w e (λ l is.
    let fits : number name + 1 < 2 ^ 64 = omega arith in
    ap number is ∙ number_append (take (front name) name) (number name + 1)
    (front_append name (decimal (number name + 1)) (decimal-digits (number name + 1) fits) ∙ sym (length-take-le (front name) name (front_le name))) fits)

pub proposal-number : (root : List ℕ) (n : ℕ) (w : List ℕ) → proposal root n ≡ Some w → number w ≡ number root + n
proposal-number root zero w e = let s : w ≡ root = cc in ap number s ∙ omega arith
proposal-number root (suc n) w e = go (proposal root n) refl (proposal-number root n) e
  where
    go : (o : Option (List ℕ)) → proposal root n ≡ o → ((v : List ℕ) → proposal root n ≡ Some v → number v ≡ number root + n) →
        following o ≡ Some w → number w ≡ number root + suc n
    go None is before h = let z : ◌≡◌ {A = ℕ} 0 1 = cc in absurd (omega arith)
    go (Some v) is before h = let s = next-number v w h in let b = before v is in omega arith

pub proposals_differ_lem : (root : List ℕ) (i j : ℕ) (w : List ℕ) → proposal root i ≡ Some w → proposal root j ≡ Some w → i ≡ j
proposals_differ_lem root i j w a b = let x = proposal-number root i w a in let y = proposal-number root j w b in omega arith

-- spelling

every_take : (test : ℕ → Bool) (k : ℕ) (bs : List ℕ) → every test bs ≡ true → every test (take k bs) ≡ true
every_take test zero bs h = refl
every_take test (suc k) [] h = refl
every_take test (suc k) (b ∷ bs) h = let p = and_parts (test b) (every test bs) h in and_from _ _ p.0 (every_take test k bs p.1)

every_append : (test : ℕ → Bool) (xs ys : List ℕ) → every test xs ≡ true → every test ys ≡ true → every test (xs ++ ys) ≡ true
every_append test [] ys h g = g
every_append test (x ∷ xs) ys h g = let p = and_parts (test x) (every test xs) h in and_from _ _ p.0 (every_append test xs ys p.1 g)

every-digits : (ds : List ℕ) → AllDigits 10 ds → every later_byte ds ≡ true
every-digits [] h = refl
every-digits (d ∷ ds) h = and_from _ _ (later d (digit_from_value d h.0)) (every-digits ds h.1)
  where
    later : (d : ℕ) → IsInRange 48 57 d → later_byte d ≡ true
    later d i = grind (arith, nat_tests)

first_no_digit : (c : ℕ) → first_byte c ≡ true → is_ascii_digit c ≡ false
first_no_digit c h = grind (arith, nat_tests)

pub next-spelled : (name w : List ℕ) → next_name name ≡ Some w → spelled name ≡ true → spelled w ≡ true
next-spelled [] w e h = let z : false ≡ true = h in absurd (false≢true z)
next-spelled (c ∷ cs) w e h = next-parts (c ∷ cs) w e (λ l is.
    let p = and_parts (first_byte c) (every later_byte cs) h in
    ap spelled is ∙ go (front (c ∷ cs)) (decimal (number (c ∷ cs) + 1)) (front-some c cs (first_no_digit c p.0)) p.0 p.1 (every-digits _ (decimal-digits (number (c ∷ cs) + 1) (omega arith))))
  where
    go : (k : ℕ) (ds : List ℕ) → 0 < k → first_byte c ≡ true → every later_byte cs ≡ true → every later_byte ds ≡ true → spelled (take k (c ∷ cs) ++ ds) ≡ true
    go zero ds s f m d = absurd (omega arith)
    go (suc k) ds s f m d = and_from _ _ f (every_append later_byte (take k cs) ds (every_take later_byte k cs m) d)

pub proposals_shaped_lem : (root : List ℕ) (n : ℕ) (w : List ℕ) → spelled root ≡ true → proposal root n ≡ Some w → spelled w ≡ true
proposals_shaped_lem root zero w h e = let s : w ≡ root = cc in ap spelled s ∙ h
proposals_shaped_lem root (suc n) w h e = go (proposal root n) refl (λ v. proposals_shaped_lem root n v h) e
  where
    go : (o : Option (List ℕ)) → proposal root n ≡ o → ((v : List ℕ) → proposal root n ≡ Some v → spelled v ≡ true) → following o ≡ Some w → spelled w ≡ true
    go None is before g = let z : ◌≡◌ {A = ℕ} 0 1 = cc in absurd (omega arith)
    go (Some v) is before g = next-spelled v w g (before v is)
