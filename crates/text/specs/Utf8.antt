-- UTF-8 by RFC 3629.
use Rattle.std.specs.Prelude.{◌≡◌, ℕ, ◌-◌, Bool, cond, ◌&&◌, ◌||◌, List, [], ◌∷◌, ◌==◌, nat_le, nat_lt}
use Rattle.std.specs.Int.{IsInRange}
use Rattle.std.specs.List.{flat_map}
use Rattle.text.specs.Names.{within}

-- A byte that begins a character says how many follow it, and in which range the next one lies; any further one is from 80 to BF.

abbrev pub lead : ℕ → Bool
lead b = nat_le b 0x7F || within 0xC2 0xF4 b

abbrev pub tails : ℕ → ℕ
tails b = cond (nat_lt b 0x80) 0 (cond (nat_lt b 0xE0) 1 (cond (nat_lt b 0xF0) 2 3))

abbrev pub lowest : ℕ → ℕ
lowest b = cond (b == 0xE0) 0xA0 (cond (b == 0xF0) 0x90 0x80)

abbrev pub highest : ℕ → ℕ
highest b = cond (b == 0xED) 0x9F (cond (b == 0xF4) 0x8F 0xBF)

-- bytes that complete a character which lacks n bytes, the next one from low to high, and then hold whole characters
abbrev pub completes : ℕ → ℕ → ℕ → List ℕ → Bool
completes n low high [] = n == 0
completes n low high (b ∷ bs) =
    cond (n == 0)
    (lead b && completes (tails b) (lowest b) (highest b) bs)
    (within low high b && completes (n - 1) 0x80 0xBF bs)

unfoldable pub utf8 : List ℕ → Bool
utf8 s = completes 0 0x80 0xBF s

-- RFC 3629's table of the byte sequences of one character, row by row

abbrev pub Tail : ℕ → Type 0
Tail b = IsInRange 0x80 0xBF b

pub data Character : Type 0 where
  utf8_1 : (a : ℕ) → IsInRange 0x00 0x7F a → Character
  utf8_2 : (a b : ℕ) → IsInRange 0xC2 0xDF a → Tail b → Character
  utf8_3_E0 : (b c : ℕ) → IsInRange 0xA0 0xBF b → Tail c → Character
  utf8_3_E1_EC : (a b c : ℕ) → IsInRange 0xE1 0xEC a → Tail b → Tail c → Character
  utf8_3_ED : (b c : ℕ) → IsInRange 0x80 0x9F b → Tail c → Character
  utf8_3_EE_EF : (a b c : ℕ) → IsInRange 0xEE 0xEF a → Tail b → Tail c → Character
  utf8_4_x_f0 : (b c d : ℕ) → IsInRange 0x90 0xBF b → Tail c → Tail d → Character
  utf8_4_x_f1_x_f3 : (a b c d : ℕ) → IsInRange 0xF1 0xF3 a → Tail b → Tail c → Tail d → Character
  utf8_4_x_f4 : (b c d : ℕ) → IsInRange 0x80 0x8F b → Tail c → Tail d → Character

abbrev pub bytes : Character → List ℕ
bytes (utf8_1 a _) = a ∷ []
bytes (utf8_2 a b _ _) = a ∷ b ∷ []
bytes (utf8_3_E0 b c _ _) = 0xE0 ∷ b ∷ c ∷ []
bytes (utf8_3_E1_EC a b c _ _ _) = a ∷ b ∷ c ∷ []
bytes (utf8_3_ED b c _ _) = 0xED ∷ b ∷ c ∷ []
bytes (utf8_3_EE_EF a b c _ _ _) = a ∷ b ∷ c ∷ []
bytes (utf8_4_x_f0 b c d _ _ _) = 0xF0 ∷ b ∷ c ∷ d ∷ []
bytes (utf8_4_x_f1_x_f3 a b c d _ _ _ _) = a ∷ b ∷ c ∷ d ∷ []
bytes (utf8_4_x_f4 b c d _ _ _) = 0xF4 ∷ b ∷ c ∷ d ∷ []

pub record Utf8 (s : List ℕ) : Type 0 where
  pub characters : List Character
  pub is : s ≡ flat_map bytes characters
