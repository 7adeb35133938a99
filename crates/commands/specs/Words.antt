-- What the words of the command line ask for.
use Rattle.std.specs.Prelude.{◌≡◌, ℕ, ◌<◌, List, codes}
use Rattle.commands.specs.declared.Command.{Command}
use Rattle.commands.specs.declared.Command.TheVariants.{Check, Session, Unknown}

-- `check` has at least a file behind it
abbrev pub Checks : List ℕ → ℕ → Type 0
Checks word more = (word ≡ codes "check") × (0 < more)

-- `session` stands alone
abbrev pub Serves : List ℕ → ℕ → Type 0
Serves word more = (word ≡ codes "session") × (more ≡ 0)

-- a first word, with that many words behind it, is this command, or none that is known
abbrev pub Asks : List ℕ → ℕ → Command → Type 0
Asks word more Check = Checks word more
Asks word more Session = Serves word more
Asks word more Unknown = (Checks word more → ⊥) × (Serves word more → ⊥)
