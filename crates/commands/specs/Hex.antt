-- Bytes that are written as pairs of hexadecimal digits.
use Rattle.std.specs.Prelude.{ℕ, ◌+◌, ◌-◌, ◌*◌, cond, ◌&&◌, List, [], ◌∷◌, Some, None, Option, nat_le}

-- the value of a digit 0 to 9, a to f or A to F
abbrev pub digit_of : ℕ → Option ℕ
digit_of c =
    cond (nat_le 48 c && nat_le c 57) (Some (c - 48))
    (cond (nat_le 97 c && nat_le c 102) (Some (c - 87)) (cond (nat_le 65 c && nat_le c 70) (Some (c - 55)) None))

-- the byte of two digits, before the others
abbrev pub byte_before : Option ℕ → Option ℕ → Option (List ℕ) → Option (List ℕ)
byte_before None low rest = None
byte_before (Some h) None rest = None
byte_before (Some h) (Some l) None = None
byte_before (Some h) (Some l) (Some bytes) = Some ((h * 16 + l) ∷ bytes)

-- the bytes of a text of pairs of digits; none at an odd length or at a byte that is no digit
abbrev pub hex_bytes : List ℕ → Option (List ℕ)
hex_bytes [] = Some []
hex_bytes (c ∷ []) = None
hex_bytes (h ∷ l ∷ rest) = byte_before (digit_of h) (digit_of l) (hex_bytes rest)
