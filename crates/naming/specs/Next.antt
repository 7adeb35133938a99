-- The name that follows a name: its front, and the number that it ends in plus 1.
use Rattle.std.specs.Prelude.{◌≡◌, ℕ, zero, suc, ◌+◌, ◌-◌, Bool, cond, List, [], ◌∷◌, ◌++◌, length, take, drop, is_some, Some, None, decimal, Option, ◌==◌, nat_lt}
use Rattle.std.specs.Option.{unwrap_or}
use Rattle.std.specs.Str.Parse.{digits_value}
use Rattle.std.specs.Char.{is_ascii_digit}
use Rattle.std.specs.List.{suffix_len}

-- how many bytes stand before the longest run of digits that ends the name
unfoldable pub front : List ℕ → ℕ
front name = length name - suffix_len is_ascii_digit name

abbrev pub largest : ℕ
largest = 18446744073709551615

-- what digits count as: no digits, and a value above the largest number, count as 1
abbrev pub counted : List ℕ → ℕ
counted [] = 1
counted (d ∷ ds) = cond (nat_lt largest (digits_value 10 (d ∷ ds))) 1 (digits_value 10 (d ∷ ds))

unfoldable pub number : List ℕ → ℕ
number name = counted (drop (front name) name)

-- the largest number has no next one
unfoldable pub next_name : List ℕ → Option (List ℕ)
next_name name = cond (number name == largest) None (Some (take (front name) name ++ decimal (number name + 1)))

-- The proposals for a root: the root, its next name, the next name of that, and so on for as long as there is one.

abbrev pub following : Option (List ℕ) → Option (List ℕ)
following None = None
following (Some w) = next_name w

abbrev pub proposal : List ℕ → ℕ → Option (List ℕ)
proposal root zero = Some root
proposal root (suc n) = following (proposal root n)

-- the bytes before have grown by the name that is there, and `there` says whether one is
abbrev pub Appended : Option (List ℕ) → Bool → List ℕ → List ℕ → Type 0
Appended o there before after = (there ≡ is_some o) × (after ≡ before ++ unwrap_or o [])
