-- Worked cases: names, each with the name that follows it.
use Rattle.std.specs.Prelude.{◌≡◌, ℕ, List, [], ◌∷◌, ◌++◌, replicate, Some, None, codes, Option}
use Rattle.std.specs.List.{AllByRecursion}
use Rattle.naming.specs.Next.{next_name}

pub record Case : Type 0 where
  pub name : List ℕ
  pub next : Option (List ℕ)

abbrev pub case : List ℕ → Option (List ℕ) → Case
case name next = record { name = name; next = next }

abbrev pub Holds : Case → Type 0
Holds c = next_name c.name ≡ c.next

abbrev pub cases : List Case
cases =
    case (codes "Rate") (Some (codes "Rate2"))
    ∷ case (codes "Rate007") (Some (codes "Rate8"))
    ∷ case (codes "R18446744073709551614") (Some (codes "R18446744073709551615"))
    ∷ case (codes "R18446744073709551615") None
    ∷ case (codes "R18446744073709551616") (Some (codes "R2"))
    ∷ case (codes "R" ++ replicate 40 48 ++ codes "7") (Some (codes "R8"))
    ∷ case (codes "Row9") (Some (codes "Row10"))
    ∷ case (codes "T2b") (Some (codes "T2b2"))
    ∷ case (codes "R0") (Some (codes "R1"))
    ∷ case (codes "41") (Some (codes "42"))
    ∷ case [] (Some (codes "2"))
    ∷ []

abbrev pub CasesHold : Type 0
CasesHold = AllByRecursion Holds cases
