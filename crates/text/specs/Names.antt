-- Names as Python writes them: identifiers, and identifiers joined by dots.
use Rattle.std.specs.Prelude.{◌≡◌, ℕ, ◌≤◌, Bool, true, false, cond, not, ◌&&◌, ◌||◌, ◌⊎◌, List, [], ◌∷◌, ◌++◌, length, codes, Contains, ◌==◌, nat_le}
use Rattle.std.specs.List.{AllByRecursion}
use Rattle.std.specs.Int.{IsInRange}
use Rattle.std.specs.Str.{bytes_eq}

-- Classes of bytes: as a test, and in words.

abbrev pub within : ℕ → ℕ → ℕ → Bool
within low high b = nat_le low b && nat_le b high

abbrev pub letter : ℕ → Bool
letter b = within 97 122 b || within 65 90 b

abbrev pub digit : ℕ → Bool
digit b = within 48 57 b

abbrev pub first_byte : ℕ → Bool
first_byte b = letter b || b == 95

abbrev pub later_byte : ℕ → Bool
later_byte b = first_byte b || digit b

abbrev pub Letter : ℕ → Type 0
Letter b = IsInRange 97 122 b ⊎ IsInRange 65 90 b

abbrev pub Digit : ℕ → Type 0
Digit b = IsInRange 48 57 b

abbrev pub FirstByte : ℕ → Type 0
FirstByte b = Letter b ⊎ (b ≡ 95)

abbrev pub LaterByte : ℕ → Type 0
LaterByte b = FirstByte b ⊎ Digit b

-- a test that each byte passes
abbrev pub every : (ℕ → Bool) → List ℕ → Bool
every test [] = true
every test (b ∷ bs) = test b && every test bs

-- Python's keywords

abbrev pub keywords : List (List ℕ)
keywords =
    codes "False" ∷ codes "None" ∷ codes "True" ∷ codes "and" ∷ codes "as" ∷ codes "assert" ∷ codes "async" ∷ codes "await"
    ∷ codes "break" ∷ codes "class" ∷ codes "continue" ∷ codes "def" ∷ codes "del" ∷ codes "elif" ∷ codes "else" ∷ codes "except"
    ∷ codes "finally" ∷ codes "for" ∷ codes "from" ∷ codes "global" ∷ codes "if" ∷ codes "import" ∷ codes "in" ∷ codes "is"
    ∷ codes "lambda" ∷ codes "nonlocal" ∷ codes "not" ∷ codes "or" ∷ codes "pass" ∷ codes "raise" ∷ codes "return" ∷ codes "try"
    ∷ codes "while" ∷ codes "with" ∷ codes "yield" ∷ []

abbrev pub among : List (List ℕ) → List ℕ → Bool
among [] s = false
among (w ∷ ws) s = bytes_eq w s || among ws s

unfoldable pub keyword : List ℕ → Bool
keyword s = among keywords s

-- Identifiers

abbrev pub spelled : List ℕ → Bool
spelled [] = false
spelled (b ∷ bs) = first_byte b && every later_byte bs

unfoldable pub identifier : List ℕ → Bool
identifier s = nat_le (length s) 64 && spelled s && not (keyword s)

pub record Identifier (s : List ℕ) : Type 0 where
  pub first : ℕ
  pub later : List ℕ
  pub is : s ≡ first ∷ later
  pub starts : FirstByte first
  pub goes_on : AllByRecursion LaterByte later
  pub short : length s ≤ 64
  pub not_reserved : Contains keywords s → ⊥

-- Names with dots

-- the identifier that is being read, of which `part` is known, ends at the next dot or with the bytes
abbrev pub parts : List ℕ → List ℕ → Bool
parts part [] = identifier part
parts part (b ∷ bs) = cond (b == 46) (identifier part && parts [] bs) (parts (part ++ b ∷ []) bs)

unfoldable pub dotted : List ℕ → Bool
dotted s = nat_le (length s) 255 && parts [] s

abbrev pub joined_by_dots : List ℕ → List (List ℕ) → List ℕ
joined_by_dots name [] = name
joined_by_dots name (next ∷ more) = name ++ 46 ∷ joined_by_dots next more

pub record Dotted (s : List ℕ) : Type 0 where
  pub name : List ℕ
  pub more : List (List ℕ)
  pub is : s ≡ joined_by_dots name more
  pub identifiers : AllByRecursion Identifier (name ∷ more)
  pub short : length s ≤ 255
