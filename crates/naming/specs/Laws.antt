-- What holds of the proposals for a root.
use Rattle.std.specs.Prelude.{◌≡◌, ℕ, true, List, Some}
use Rattle.text.specs.Names.{spelled}
use Rattle.naming.specs.Next.{proposal}

-- No two proposals for a root are the same name.
abbrev pub ProposalsDiffer : Type 0
ProposalsDiffer = (root : List ℕ) (i j : ℕ) (w : List ℕ) → proposal root i ≡ Some w → proposal root j ≡ Some w → i ≡ j

-- Where the root is spelled as an identifier, each proposal for it is.
abbrev pub ProposalsShaped : Type 0
ProposalsShaped = (root : List ℕ) (n : ℕ) (w : List ℕ) → spelled root ≡ true → proposal root n ≡ Some w → spelled w ≡ true
