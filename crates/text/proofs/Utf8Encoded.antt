-- The library's UTF-8, by the numbers of the characters, is RFC 3629's table.
use Rattle.std.proofs.Common.{◌≡◌, ℕ, ◌+◌, ◌/◌, ◌%◌, ◌<◌, ◌≤◌, true, ◌⊎◌, List, [], ◌∷◌, ◌++◌, Result, Ok, Err, Decides, refl, sym, ap, ◌∙◌, subst, inl, inr, arith}
use Rattle.std.specs.Result.{MatchResult, is_ok}
use mathlib.Core.Bool.{false≢true}
use Rattle.std.specs.Str.{IsUtf8}
use Rattle.std.specs.List.{flat_map}
use Rattle.std.proofs.Math.Utf8.{scalar, scalars, encode, encodes, scalar_cases}
use Rattle.std.proofs.lemmas.Bool.{and_parts, cases_lt}
use Rattle.std.proofs.lemmas.Str.{IsUtf8-append, IsUtf8-nil}
use Rattle.std.proofs.str.Laws.{one, two, three, four}
use Rattle.std.proofs.str.Valid.{of_one, of_two, of_three, of_four}
use Rattle.text.specs.Utf8.{Character, bytes, Utf8}
use Rattle.text.specs.Utf8.{utf8_1, utf8_2, utf8_3_E0, utf8_3_E1_EC, utf8_3_ED, utf8_3_EE_EF, utf8_4_x_f0, utf8_4_x_f1_x_f3, utf8_4_x_f4}

valid : (c : Character) → IsUtf8 (bytes c)
valid (utf8_1 a h) = of_one (a ∷ []) 0 (omega arith) (omega arith)
valid (utf8_2 a b h hb) = of_two (a ∷ b ∷ []) 0 (omega arith) (omega arith, omega arith) (omega arith, omega arith)
valid (utf8_3_E0 b c hb hc) = of_three (0xE0 ∷ b ∷ c ∷ []) 0 (omega arith) (omega arith, omega arith) (omega arith, omega arith) (omega arith, omega arith) (omega arith) (inl (omega arith))
valid (utf8_3_E1_EC a b c h hb hc) = of_three (a ∷ b ∷ c ∷ []) 0 (omega arith) (omega arith, omega arith) (omega arith, omega arith) (omega arith, omega arith) (omega arith) (inl (omega arith))
valid (utf8_3_ED b c hb hc) = of_three (0xED ∷ b ∷ c ∷ []) 0 (omega arith) (omega arith, omega arith) (omega arith, omega arith) (omega arith, omega arith) (omega arith) (inl (omega arith))
valid (utf8_3_EE_EF a b c h hb hc) = of_three (a ∷ b ∷ c ∷ []) 0 (omega arith) (omega arith, omega arith) (omega arith, omega arith) (omega arith, omega arith) (omega arith) (inr (omega arith))
valid (utf8_4_x_f0 b c d hb hc hd) = of_four (0xF0 ∷ b ∷ c ∷ d ∷ []) 0 (omega arith) (omega arith) (omega arith, omega arith) (omega arith, omega arith) (omega arith, omega arith) (omega arith, omega arith)
valid (utf8_4_x_f1_x_f3 a b c d h hb hc hd) = of_four (a ∷ b ∷ c ∷ d ∷ []) 0 (omega arith) (omega arith) (omega arith, omega arith) (omega arith, omega arith) (omega arith, omega arith) (omega arith, omega arith)
valid (utf8_4_x_f4 b c d hb hc hd) = of_four (0xF4 ∷ b ∷ c ∷ d ∷ []) 0 (omega arith) (omega arith) (omega arith, omega arith) (omega arith, omega arith) (omega arith, omega arith) (omega arith, omega arith)

pub IsUtf8-characters : (cs : List Character) → IsUtf8 (flat_map bytes cs)
IsUtf8-characters [] = IsUtf8-nil
IsUtf8-characters (c ∷ cs) = IsUtf8-append (bytes c) (flat_map bytes cs) (valid c) (IsUtf8-characters cs)

-- the row of the table that a number's bytes stand in
abbrev Row : ℕ → Type 0
Row c = (k : Character) × (encode c ≡ bytes k)

row_3 : (c : ℕ) → 2048 ≤ c → c < 65536 → (c < 55296) ⊎ (57344 ≤ c) → Row c
row_3 c l h s =
    elim (cases_lt c 4096) [
      | inl p ↦ (utf8_3_E0 (128 + c / 64 % 64) (128 + c % 64) (omega arith, omega arith) (omega arith, omega arith), three c l h ∙ ap (λ a. a ∷ (128 + c / 64 % 64) ∷ (128 + c % 64) ∷ []) (omega arith))
      | inr p ↦ elim (cases_lt c 0xD000) [
        | inl q ↦ (utf8_3_E1_EC (224 + c / 4096) (128 + c / 64 % 64) (128 + c % 64) (omega arith, omega arith) (omega arith, omega arith) (omega arith, omega arith), three c l h)
        | inr q ↦ elim s [
          | inl r ↦ (utf8_3_ED (128 + c / 64 % 64) (128 + c % 64) (omega arith, omega arith) (omega arith, omega arith), three c l h ∙ ap (λ a. a ∷ (128 + c / 64 % 64) ∷ (128 + c % 64) ∷ []) (omega arith))
          | inr r ↦ (utf8_3_EE_EF (224 + c / 4096) (128 + c / 64 % 64) (128 + c % 64) (omega arith, omega arith) (omega arith, omega arith) (omega arith, omega arith), three c l h)
        ]
      ]
    ]

row_4 : (c : ℕ) → 65536 ≤ c → c < 1114112 → Row c
row_4 c l h =
    elim (cases_lt c 262144) [
      | inl p ↦ (utf8_4_x_f0 (128 + c / 4096 % 64) (128 + c / 64 % 64) (128 + c % 64) (omega arith, omega arith) (omega arith, omega arith) (omega arith, omega arith), four c l ∙ ap (λ a. a ∷ (128 + c / 4096 % 64) ∷ (128 + c / 64 % 64) ∷ (128 + c % 64) ∷ []) (omega arith))
      | inr p ↦ elim (cases_lt c 1048576) [
        | inl q ↦ (utf8_4_x_f1_x_f3 (240 + c / 262144) (128 + c / 4096 % 64) (128 + c / 64 % 64) (128 + c % 64) (omega arith, omega arith) (omega arith, omega arith) (omega arith, omega arith) (omega arith, omega arith), four c l)
        | inr q ↦ (utf8_4_x_f4 (128 + c / 4096 % 64) (128 + c / 64 % 64) (128 + c % 64) (omega arith, omega arith) (omega arith, omega arith) (omega arith, omega arith), four c l ∙ ap (λ a. a ∷ (128 + c / 4096 % 64) ∷ (128 + c / 64 % 64) ∷ (128 + c % 64) ∷ []) (omega arith))
      ]
    ]

row : (c : ℕ) → (c < 55296) ⊎ ((57344 ≤ c) × (c < 1114112)) → Row c
row c s =
    elim (cases_lt c 128) [
      | inl h ↦ (utf8_1 c (omega arith, omega arith), one c h)
      | inr l ↦ elim (cases_lt c 2048) [
        | inl h ↦ (utf8_2 (192 + c / 64) (128 + c % 64) (omega arith, omega arith) (omega arith, omega arith), two c l h)
        | inr l ↦ elim (cases_lt c 65536) [
          | inl h ↦ row_3 c l h (elim s [ inl p ↦ inl p | inr p ↦ inr p.0 ])
          | inr l ↦ row_4 c l (elim s [ inl p ↦ absurd (omega arith) | inr p ↦ p.1 ])
        ]
      ]
    ]

pub Utf8-encodes : (cs : List ℕ) → scalars cs ≡ true → Utf8 (encodes cs)
Utf8-encodes [] e = record { characters = []; is = refl }
Utf8-encodes (c ∷ cs) e =
    let h = and_parts (scalar c) (scalars cs) e in
    let k = row c (scalar_cases c h.0) in
    let u = Utf8-encodes cs h.1 in
    record { characters = k.0 ∷ u.characters; is = ap (λ x. x ++ encodes cs) k.1 ∙ ap (λ x. bytes k.0 ++ x) u.is }

pub IsUtf8-is : (s : List ℕ) → (IsUtf8 s → Utf8 s) × (Utf8 s → IsUtf8 s)
IsUtf8-is s = (λ u. subst Utf8 u.1.1 (Utf8-encodes u.0 u.1.0), λ u. subst IsUtf8 (sym u.is) (IsUtf8-characters u.characters))

-- what the library's reader says of the bytes
pub Decides-from_utf8 : {T E : Type 0} (P : T → Type 0) (Q : E → Type 0) (s : List ℕ) (r : Result T E) → MatchResult r (λ x. P x × IsUtf8 s) (λ e. (IsUtf8 s → ⊥) × Q e) → Decides (is_ok r) (Utf8 s)
Decides-from_utf8 P Q s (Ok x) h = (λ _. (IsUtf8-is s).0 h.1, λ _. refl)
Decides-from_utf8 P Q s (Err e) h = (λ t. absurd (false≢true t), λ u. absurd (h.0 ((IsUtf8-is s).1 u)))
