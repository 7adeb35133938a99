-- What the library decodes of a text is what the pairs of digits say.
use Rattle.std.proofs.Common.{◌≡◌, ℕ, ◌+◌, ◌*◌, ◌%◌, ◌&&◌, true, false, true≢false, is_some, inl, inr, List, [], ◌∷◌, length, Some, None, Ok, Err, Option, Result, sym, refl, ap, ◌∙◌, arith}
use Rattle.std.specs.Char.{is_ascii_hexdigit}
use Rattle.std.specs.List.{list_all}
use Rattle.std.proofs.lemmas.Bool.{cases_eq}
use Rattle.hex.specs.declared.error.FromHexError.{FromHexError}
use Rattle.hex.specs.Hex.{decode_of, decode_pairs, digit_or_error, hex_digit_value, ◌>>=◌}
use Rattle.hex.proofs.HexLemmas.{decode_of-even, decode_of-odd}
use Rattle.commands.specs.Hex.{digit_of, byte_before, hex_bytes}

-- what was read, if it could be
abbrev pub read_or_none : Result (List ℕ) FromHexError → Option (List ℕ)
read_or_none (Ok bytes) = Some bytes
read_or_none (Err e) = None

digit_same : (c : ℕ) → hex_digit_value c ≡ digit_of c
digit_same c = grind arith

-- two digits and what follows them
pair_same : (i j h l : ℕ) (high low : Option ℕ) (rest : Result (List ℕ) FromHexError) → read_or_none ((digit_or_error h i high >>= (λ x. digit_or_error l j low >>= (λ y. Ok (x * 16 + y)))) >>= (λ byte. rest >>= (λ bytes. Ok (byte ∷ bytes)))) ≡ byte_before high low (read_or_none rest)
pair_same i j h l None low rest = refl
pair_same i j h l (Some x) None rest = refl
pair_same i j h l (Some x) (Some y) (Ok bytes) = refl
pair_same i j h l (Some x) (Some y) (Err e) = refl

pairs_same : (i : ℕ) (text : List ℕ) → read_or_none (decode_pairs i text) ≡ hex_bytes text
unfolding decode_pairs
pairs_same i [] = refl
pairs_same i (c ∷ []) = refl
pairs_same i (h ∷ l ∷ rest) =
    rw (← digit_same h, ← digit_same l, ← pairs_same (i + 2) rest)
    (pair_same i (i + 1) h l (hex_digit_value h) (hex_digit_value l) (decode_pairs (i + 2) rest))

none_before : (high low : Option ℕ) → byte_before high low None ≡ None
none_before None low = refl
none_before (Some h) None = refl
none_before (Some h) (Some l) = refl

not_some : (o : Option (List ℕ)) → is_some o ≡ false → o ≡ None
not_some None lacks = refl
not_some (Some bytes) lacks = absurd (true≢false lacks)

-- an odd text has no bytes
odd_none : (text : List ℕ) → length text % 2 ≡ 1 → hex_bytes text ≡ None
odd_none [] odd = absurd (omega arith)
odd_none (c ∷ []) odd = refl
odd_none (h ∷ l ∷ rest) odd =
    ap (byte_before (digit_of h) (digit_of l)) (odd_none rest (omega arith)) ∙ none_before (digit_of h) (digit_of l)

are_digit : (c : ℕ) → is_ascii_hexdigit c ≡ is_some (digit_of c)
are_digit c = grind arith

before_some : (high low : Option ℕ) (rest : Option (List ℕ)) → is_some (byte_before high low rest) ≡ (is_some high && (is_some low && is_some rest))
before_some None low rest = refl
before_some (Some h) None rest = refl
before_some (Some h) (Some l) None = refl
before_some (Some h) (Some l) (Some bytes) = refl

-- an even text has bytes exactly where all of it are digits
pub even_some : (text : List ℕ) → (length text % 2 ≡ 1 → ⊥) → is_some (hex_bytes text) ≡ list_all is_ascii_hexdigit text
even_some [] even = refl
even_some (c ∷ []) even = absurd (even refl)
even_some (h ∷ l ∷ rest) even =
    before_some (digit_of h) (digit_of l) (hex_bytes rest)
    ∙ (λ i. sym (are_digit h) i && (sym (are_digit l) i && even_some rest (λ odd. even (omega (arith, odd))) i))

-- so has none where one of them is no digit
pub no_digit_none : (text : List ℕ) → list_all is_ascii_hexdigit text ≡ false → hex_bytes text ≡ None
no_digit_none text lacks =
    elim (cases_eq (length text % 2) 1) [
      | inl odd ↦ odd_none text odd
      | inr even ↦ not_some (hex_bytes text) (even_some text even ∙ lacks)
    ]

pub decoded_same : (text : List ℕ) → read_or_none (decode_of text) ≡ hex_bytes text
decoded_same text =
    elim (cases_eq (length text % 2) 1) [
      | inl odd ↦ ap read_or_none (decode_of-odd text odd) ∙ sym (odd_none text odd)
      | inr even ↦ ap read_or_none (decode_of-even text (omega arith)) ∙ pairs_same 0 text
    ]

-- what has the bytes that the library decoded has those of the pairs
pub kept_same : (text bytes : List ℕ) → decode_of text ≡ Ok bytes → (kept : List ℕ) → kept ≡ bytes → Some kept ≡ hex_bytes text
kept_same text bytes decoded kept same = ap Some same ∙ sym (ap read_or_none decoded) ∙ decoded_same text

-- and then the text is a row of pairs of digits
pub decoded_some : (text bytes : List ℕ) → decode_of text ≡ Ok bytes → is_some (hex_bytes text) ≡ true
decoded_some text bytes decoded = ap is_some (sym (decoded_same text) ∙ ap read_or_none decoded)
