-- The test for UTF-8 tells what RFC 3629's table says.
use Rattle.std.proofs.Common.{◌≡◌, ℕ, zero, suc, ◌-◌, ◌≤◌, true, eqb, leb, ◌⊎◌, List, [], ◌∷◌, ◌++◌, Decides, sym, refl, ap, ◌∙◌, subst, inl, inr, arith}
use Rattle.std.specs.Int.{IsInRange}
use Rattle.std.specs.List.{flat_map}
use Rattle.std.proofs.lemmas.Bool.{and_from, and_parts, cases_eq, cases_lt, cond-false, eqb-true, le-leb, leb-true, ne_eqb}
use Rattle.std.proofs.lemmas.Bool.Decides.{Decides-or, nat_tests}
use Rattle.text.specs.Names.{within}
use Rattle.text.specs.Utf8.{lead, tails, lowest, highest, completes, utf8, Tail, Character, bytes, Utf8}
use Rattle.text.specs.Utf8.{utf8_1, utf8_2, utf8_3_E0, utf8_3_E1_EC, utf8_3_ED, utf8_3_EE_EF, utf8_4_x_f0, utf8_4_x_f1_x_f3, utf8_4_x_f4}
use Rattle.text.proofs.NamesDecided.{within-Decides}

-- what a lead byte asks for
record Row (a n low high : ℕ) : Type 0 where
  leads : lead a ≡ true
  lacks : tails a ≡ n
  from : lowest a ≡ low
  to : highest a ≡ high

row_1 : (a : ℕ) → IsInRange 0x00 0x7F a → Row a 0 0x80 0xBF
row_1 a h = record { leads = grind (arith, nat_tests); lacks = grind (arith, nat_tests); from = grind (arith, nat_tests); to = grind (arith, nat_tests) }

row_2 : (a : ℕ) → IsInRange 0xC2 0xDF a → Row a 1 0x80 0xBF
row_2 a h = record { leads = grind (arith, nat_tests); lacks = grind (arith, nat_tests); from = grind (arith, nat_tests); to = grind (arith, nat_tests) }

row_E0 : Row 0xE0 2 0xA0 0xBF
row_E0 = record { leads = refl; lacks = refl; from = refl; to = refl }

row_E1_EC : (a : ℕ) → IsInRange 0xE1 0xEC a → Row a 2 0x80 0xBF
row_E1_EC a h = record { leads = grind (arith, nat_tests); lacks = grind (arith, nat_tests); from = grind (arith, nat_tests); to = grind (arith, nat_tests) }

row_ED : Row 0xED 2 0x80 0x9F
row_ED = record { leads = refl; lacks = refl; from = refl; to = refl }

row_EE_EF : (a : ℕ) → IsInRange 0xEE 0xEF a → Row a 2 0x80 0xBF
row_EE_EF a h = record { leads = grind (arith, nat_tests); lacks = grind (arith, nat_tests); from = grind (arith, nat_tests); to = grind (arith, nat_tests) }

row_x_f0 : Row 0xF0 3 0x90 0xBF
row_x_f0 = record { leads = refl; lacks = refl; from = refl; to = refl }

row_x_f1_x_f3 : (a : ℕ) → IsInRange 0xF1 0xF3 a → Row a 3 0x80 0xBF
row_x_f1_x_f3 a h = record { leads = grind (arith, nat_tests); lacks = grind (arith, nat_tests); from = grind (arith, nat_tests); to = grind (arith, nat_tests) }

row_x_f4 : Row 0xF4 3 0x80 0x8F
row_x_f4 = record { leads = refl; lacks = refl; from = refl; to = refl }

-- From the table to the test.

enter : (a n low high : ℕ) (bs : List ℕ) → Row a n low high → completes n low high bs ≡ true → completes 0 0x80 0xBF (a ∷ bs) ≡ true
enter a n low high bs r e =
    and_from _ _ r.leads
    (ap (λ x. completes x (lowest a) (highest a) bs) r.lacks
    ∙ (ap (λ x. completes n x (highest a) bs) r.from ∙ (ap (λ x. completes n low x bs) r.to ∙ e)))

next : (n low high b : ℕ) (bs : List ℕ) → IsInRange low high b → completes n 0x80 0xBF bs ≡ true → completes (suc n) low high (b ∷ bs) ≡ true
next n low high b bs h e =
    cond-false (eqb (suc n) 0) _ _ (ne_eqb (suc n) 0 (λ z. omega arith))
    ∙ and_from _ _ ((within-Decides low high b).1 h) (ap (λ m. completes m 0x80 0xBF bs) (let z : suc n - 1 ≡ n = omega arith in z) ∙ e)

-- whole characters
abbrev Whole : List ℕ → Type 0
Whole s = completes 0 0x80 0xBF s ≡ true

two : (a low high b : ℕ) (s : List ℕ) → Row a 1 low high → IsInRange low high b → Whole s → Whole (a ∷ b ∷ s)
two a low high b s r hb w = enter a 1 low high (b ∷ s) r (next 0 low high b s hb w)

three : (a low high b c : ℕ) (s : List ℕ) → Row a 2 low high → IsInRange low high b → Tail c → Whole s → Whole (a ∷ b ∷ c ∷ s)
three a low high b c s r hb hc w = enter a 2 low high (b ∷ c ∷ s) r (next 1 low high b (c ∷ s) hb (next 0 0x80 0xBF c s hc w))

four : (a low high b c d : ℕ) (s : List ℕ) → Row a 3 low high → IsInRange low high b → Tail c → Tail d → Whole s → Whole (a ∷ b ∷ c ∷ d ∷ s)
four a low high b c d s r hb hc hd w =
    enter a 3 low high (b ∷ c ∷ d ∷ s) r (next 2 low high b (c ∷ d ∷ s) hb (next 1 0x80 0xBF c (d ∷ s) hc (next 0 0x80 0xBF d s hd w)))

utf8-from : (cs : List Character) → Whole (flat_map bytes cs)
utf8-from [] = refl
utf8-from (utf8_1 a h ∷ cs) = enter a 0 0x80 0xBF (flat_map bytes cs) (row_1 a h) (utf8-from cs)
utf8-from (utf8_2 a b h hb ∷ cs) = two a 0x80 0xBF b (flat_map bytes cs) (row_2 a h) hb (utf8-from cs)
utf8-from (utf8_3_E0 b c hb hc ∷ cs) = three 0xE0 0xA0 0xBF b c (flat_map bytes cs) row_E0 hb hc (utf8-from cs)
utf8-from (utf8_3_E1_EC a b c h hb hc ∷ cs) = three a 0x80 0xBF b c (flat_map bytes cs) (row_E1_EC a h) hb hc (utf8-from cs)
utf8-from (utf8_3_ED b c hb hc ∷ cs) = three 0xED 0x80 0x9F b c (flat_map bytes cs) row_ED hb hc (utf8-from cs)
utf8-from (utf8_3_EE_EF a b c h hb hc ∷ cs) = three a 0x80 0xBF b c (flat_map bytes cs) (row_EE_EF a h) hb hc (utf8-from cs)
utf8-from (utf8_4_x_f0 b c d hb hc hd ∷ cs) = four 0xF0 0x90 0xBF b c d (flat_map bytes cs) row_x_f0 hb hc hd (utf8-from cs)
utf8-from (utf8_4_x_f1_x_f3 a b c d h hb hc hd ∷ cs) = four a 0x80 0xBF b c d (flat_map bytes cs) (row_x_f1_x_f3 a h) hb hc hd (utf8-from cs)
utf8-from (utf8_4_x_f4 b c d hb hc hd ∷ cs) = four 0xF4 0x80 0x8F b c d (flat_map bytes cs) row_x_f4 hb hc hd (utf8-from cs)

-- From the test to the table.

-- what stands where a character lacks n bytes, the next one from low to high
abbrev Lacking : ℕ → ℕ → ℕ → List ℕ → Type 0
Lacking zero low high s = Utf8 s
Lacking (suc n) low high s = (b : ℕ) × (t : List ℕ) × (s ≡ b ∷ t) × IsInRange low high b × Lacking n 0x80 0xBF t

put : (c : Character) (s t : List ℕ) → s ≡ bytes c ++ t → Utf8 t → Utf8 s
put c s t e u = record { characters = c ∷ u.characters; is = e ∙ ap (λ x. bytes c ++ x) u.is }

along : (a n low high : ℕ) (bs : List ℕ) → Row a n low high → Lacking (tails a) (lowest a) (highest a) bs → Lacking n low high bs
along a n low high bs r k =
    subst (λ x. Lacking x low high bs) r.lacks
    (subst (λ x. Lacking (tails a) x high bs) r.from (subst (λ x. Lacking (tails a) (lowest a) x bs) r.to k))

one_left : (a low high : ℕ) (s : List ℕ) → Lacking 1 low high s → ((b : ℕ) (t : List ℕ) → a ∷ s ≡ a ∷ b ∷ t → IsInRange low high b → Utf8 t → Utf8 (a ∷ s)) → Utf8 (a ∷ s)
one_left a low high s k then = then k.0 k.1 (ap (λ x. a ∷ x) k.2) k.3 k.4

two_left : (a low high : ℕ) (s : List ℕ) → Lacking 2 low high s →
    ((b c : ℕ) (t : List ℕ) → a ∷ s ≡ a ∷ b ∷ c ∷ t → IsInRange low high b → Tail c → Utf8 t → Utf8 (a ∷ s)) → Utf8 (a ∷ s)
two_left a low high s k then =
    let l : Lacking 1 0x80 0xBF k.1 = k.4 in
    then k.0 l.0 l.1 (ap (λ x. a ∷ x) k.2 ∙ ap (λ x. a ∷ k.0 ∷ x) l.2) k.3 l.3 l.4

three_left : (a low high : ℕ) (s : List ℕ) → Lacking 3 low high s →
    ((b c d : ℕ) (t : List ℕ) → a ∷ s ≡ a ∷ b ∷ c ∷ d ∷ t → IsInRange low high b → Tail c → Tail d → Utf8 t → Utf8 (a ∷ s)) → Utf8 (a ∷ s)
three_left a low high s k then =
    let l : Lacking 2 0x80 0xBF k.1 = k.4 in
    let m : Lacking 1 0x80 0xBF l.1 = l.4 in
    then k.0 l.0 m.0 m.1
    (ap (λ x. a ∷ x) k.2 ∙ (ap (λ x. a ∷ k.0 ∷ x) l.2 ∙ ap (λ x. a ∷ k.0 ∷ l.0 ∷ x) m.2))
    k.3 l.3 m.3 m.4

at_1 : (a : ℕ) (bs : List ℕ) → IsInRange 0x00 0x7F a → Lacking (tails a) (lowest a) (highest a) bs → Utf8 (a ∷ bs)
at_1 a bs h k = put (utf8_1 a h) (a ∷ bs) bs refl (along a 0 0x80 0xBF bs (row_1 a h) k)

at_2 : (a : ℕ) (bs : List ℕ) → IsInRange 0xC2 0xDF a → Lacking (tails a) (lowest a) (highest a) bs → Utf8 (a ∷ bs)
at_2 a bs h k = one_left a 0x80 0xBF bs (along a 1 0x80 0xBF bs (row_2 a h) k) (λ b t e hb u. put (utf8_2 a b h hb) (a ∷ bs) t e u)

at_E0 : (bs : List ℕ) → Lacking 2 0xA0 0xBF bs → Utf8 (0xE0 ∷ bs)
at_E0 bs k = two_left 0xE0 0xA0 0xBF bs k (λ b c t e hb hc u. put (utf8_3_E0 b c hb hc) (0xE0 ∷ bs) t e u)

at_E1_EC : (a : ℕ) (bs : List ℕ) → IsInRange 0xE1 0xEC a → Lacking (tails a) (lowest a) (highest a) bs → Utf8 (a ∷ bs)
at_E1_EC a bs h k =
    two_left a 0x80 0xBF bs (along a 2 0x80 0xBF bs (row_E1_EC a h) k) (λ b c t e hb hc u. put (utf8_3_E1_EC a b c h hb hc) (a ∷ bs) t e u)

at_ED : (bs : List ℕ) → Lacking 2 0x80 0x9F bs → Utf8 (0xED ∷ bs)
at_ED bs k = two_left 0xED 0x80 0x9F bs k (λ b c t e hb hc u. put (utf8_3_ED b c hb hc) (0xED ∷ bs) t e u)

at_EE_EF : (a : ℕ) (bs : List ℕ) → IsInRange 0xEE 0xEF a → Lacking (tails a) (lowest a) (highest a) bs → Utf8 (a ∷ bs)
at_EE_EF a bs h k =
    two_left a 0x80 0xBF bs (along a 2 0x80 0xBF bs (row_EE_EF a h) k) (λ b c t e hb hc u. put (utf8_3_EE_EF a b c h hb hc) (a ∷ bs) t e u)

at_x_f0 : (bs : List ℕ) → Lacking 3 0x90 0xBF bs → Utf8 (0xF0 ∷ bs)
at_x_f0 bs k = three_left 0xF0 0x90 0xBF bs k (λ b c d t e hb hc hd u. put (utf8_4_x_f0 b c d hb hc hd) (0xF0 ∷ bs) t e u)

at_x_f1_x_f3 : (a : ℕ) (bs : List ℕ) → IsInRange 0xF1 0xF3 a → Lacking (tails a) (lowest a) (highest a) bs → Utf8 (a ∷ bs)
at_x_f1_x_f3 a bs h k =
    three_left a 0x80 0xBF bs (along a 3 0x80 0xBF bs (row_x_f1_x_f3 a h) k) (λ b c d t e hb hc hd u. put (utf8_4_x_f1_x_f3 a b c d h hb hc hd) (a ∷ bs) t e u)

at_x_f4 : (bs : List ℕ) → Lacking 3 0x80 0x8F bs → Utf8 (0xF4 ∷ bs)
at_x_f4 bs k = three_left 0xF4 0x80 0x8F bs k (λ b c d t e hb hc hd u. put (utf8_4_x_f4 b c d hb hc hd) (0xF4 ∷ bs) t e u)

-- the row of the byte a, from what `Follows` says of any byte
abbrev Follows : List ℕ → ℕ → Type 0
Follows bs a = Lacking (tails a) (lowest a) (highest a) bs → Utf8 (a ∷ bs)

at_long : (a : ℕ) (bs : List ℕ) → IsInRange 0xC2 0xF4 a → Follows bs a
at_long a bs h =
    elim (cases_lt a 0xE0) [
      | inl l ↦ at_2 a bs (h.0, omega arith)
      | inr g ↦
          elim (cases_eq a 0xE0) [
            | inl e ↦ subst (Follows bs) (sym e) (at_E0 bs)
            | inr ne ↦
                elim (cases_lt a 0xED) [
                  | inl l ↦ at_E1_EC a bs (omega arith, omega arith)
                  | inr g ↦
                      elim (cases_eq a 0xED) [
                        | inl e ↦ subst (Follows bs) (sym e) (at_ED bs)
                        | inr ne ↦
                            elim (cases_lt a 0xF0) [
                              | inl l ↦ at_EE_EF a bs (omega arith, omega arith)
                              | inr g ↦
                                  elim (cases_eq a 0xF0) [
                                    | inl e ↦ subst (Follows bs) (sym e) (at_x_f0 bs)
                                    | inr ne ↦
                                        elim (cases_lt a 0xF4) [
                                          | inl l ↦ at_x_f1_x_f3 a bs (omega arith, omega arith)
                                          | inr g ↦
                                              subst (Follows bs) (let e : 0xF4 ≡ a = omega arith in e) (at_x_f4 bs)
                                        ]
                                  ]
                            ]
                      ]
                ]
          ]
    ]

lead-Decides : (b : ℕ) → Decides (lead b) ((b ≤ 0x7F) ⊎ IsInRange 0xC2 0xF4 b)
lead-Decides b = Decides-or (leb b 0x7F) (within 0xC2 0xF4 b) (leb-true b 0x7F, le-leb b 0x7F) (within-Decides 0xC2 0xF4 b)

at-lead : (a : ℕ) (bs : List ℕ) → (a ≤ 0x7F) ⊎ IsInRange 0xC2 0xF4 a → Follows bs a
at-lead a bs (inl l) = at_1 a bs (omega arith, l)
at-lead a bs (inr h) = at_long a bs h

lacking : (n low high : ℕ) (s : List ℕ) → completes n low high s ≡ true → Lacking n low high s
lacking zero low high [] e = record { characters = []; is = refl }
lacking (suc n) low high [] e = absurd (let z : suc n ≡ 0 = eqb-true (suc n) 0 e in omega arith)
lacking zero low high (a ∷ bs) e =
    let h = and_parts (lead a) (completes (tails a) (lowest a) (highest a) bs) e in
    at-lead a bs ((lead-Decides a).0 h.0) (lacking (tails a) (lowest a) (highest a) bs h.1)
lacking (suc n) low high (b ∷ bs) e =
    let h = and_parts (within low high b) (completes (suc n - 1) 0x80 0xBF bs) (sym (cond-false (eqb (suc n) 0) _ _ (ne_eqb (suc n) 0 (λ z. omega arith))) ∙ e) in
    let z : suc n - 1 ≡ n = omega arith in
    (b, bs, refl, (within-Decides low high b).0 h.0, lacking n 0x80 0xBF bs (ap (λ m. completes m 0x80 0xBF bs) (sym z) ∙ h.1))

pub utf8-Decides : (s : List ℕ) → Decides (utf8 s) (Utf8 s)
unfolding utf8
utf8-Decides s = (lacking 0 0x80 0xBF s, λ u. ap (completes 0 0x80 0xBF) u.is ∙ utf8-from u.characters)
