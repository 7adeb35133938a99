-- Numbers as Python writes them in decimal: integers, and floats without an exponent.
use Rattle.std.specs.Prelude.{◌≡◌, ℕ, suc, Bool, false, cond, ◌&&◌, ◌⊎◌, List, [], ◌∷◌, ◌++◌, length, take, drop, ◌==◌, nat_lt}
use Rattle.std.specs.List.{AllByRecursion}
use Rattle.std.specs.Int.{IsInRange}
use Rattle.text.specs.Names.{digit, every, Digit}

-- a sign, and what follows it

abbrev pub unsigned : List ℕ → List ℕ
unsigned [] = []
unsigned (b ∷ bs) = cond (b == 45) bs (b ∷ bs)

abbrev pub Sign : List ℕ → Type 0
Sign s = (s ≡ []) ⊎ (s ≡ 45 ∷ [])

abbrev pub digits : List ℕ → Bool
digits s = every digit s

abbrev pub some_digits : List ℕ → Bool
some_digits [] = false
some_digits (b ∷ bs) = digits (b ∷ bs)

pub record SomeDigits (s : List ℕ) : Type 0 where
  pub first : ℕ
  pub more : List ℕ
  pub is : s ≡ first ∷ more
  pub all : AllByRecursion Digit (first ∷ more)

-- Integers: 0, or digits of which the first is not 0

abbrev pub natural : List ℕ → Bool
natural [] = false
natural (b ∷ bs) = cond (b == 48) (length bs == 0) (digits (b ∷ bs))

unfoldable pub int : List ℕ → Bool
int s = natural (unsigned s)

pub record Positive (s : List ℕ) : Type 0 where
  pub first : ℕ
  pub more : List ℕ
  pub is : s ≡ first ∷ more
  pub not_zero : IsInRange 49 57 first
  pub all : AllByRecursion Digit more

pub record Int (s : List ℕ) : Type 0 where
  pub sign : List ℕ
  pub magnitude : List ℕ
  pub is : s ≡ sign ++ magnitude
  pub signed : Sign sign
  pub counts : (magnitude ≡ 48 ∷ []) ⊎ Positive magnitude

-- Floats: digits on both sides of the first dot

-- where the first dot stands, or the length where there is none
abbrev pub dot_at_of : List ℕ → ℕ
dot_at_of [] = 0
dot_at_of (b ∷ bs) = cond (b == 46) 0 (suc (dot_at_of bs))

abbrev pub fractional : List ℕ → Bool
fractional s = nat_lt (dot_at_of s) (length s) && some_digits (take (dot_at_of s) s) && some_digits (drop (suc (dot_at_of s)) s)

unfoldable pub float : List ℕ → Bool
float s = fractional (unsigned s)

pub record Float (s : List ℕ) : Type 0 where
  pub sign : List ℕ
  pub whole : List ℕ
  pub fraction : List ℕ
  pub is : s ≡ sign ++ (whole ++ 46 ∷ fraction)
  pub signed : Sign sign
  pub before : SomeDigits whole
  pub after : SomeDigits fraction
