-- What the total reading has to do with the one that checks, and with a model's files.
use Rattle.std.specs.Prelude.{◌≡◌, ℕ, ◌≤◌, List, [], map, None}
use Rattle.model.specs.Tree.{Module, pymodule}
use Rattle.model.specs.Read as Read
use Rattle.model.specs.Read.{Out, read, model}
use Rattle.model.specs.Laws.{Bytes}
use Rattle.model.specs.Files.{files, entries}
use Rattle.walk.specs.Total.{expr, attribute, argument, star, function, one_class, Own, own_in}

-- What one reading reads, to a depth, the other reads too, to that depth or a larger.
abbrev pub Agreed : {A : Type 0} → (ℕ → ℕ → List ℕ → Out A) → (ℕ → ℕ → List ℕ → A × List ℕ) → Type 0
Agreed {A} strict total = (n d d' : ℕ) → d ≤ d' → (bs : List ℕ) (a : A) (r : List ℕ) → strict n d bs ≡ read a r → total n d' bs ≡ (a, r)

pub record Agreement : Type 0 where
  pub expr : Agreed Read.expr expr
  pub attribute : Agreed Read.attribute attribute
  pub argument : Agreed Read.argument argument
  pub star : Agreed Read.star star
  pub function : Agreed Read.function function
  pub one_class : Agreed Read.one_class one_class

-- a module's own declarations
abbrev pub own_of : Module → Own
own_of (pymodule p s modules own classes functions attributes) = record { classes = classes; functions = functions; attributes = attributes }

-- Each file's declarations are reached by the model's list of files in short.
abbrev pub FilesReached : Type 0
FilesReached = (bs : List ℕ) → Bytes bs → (m : Module) → model bs ≡ read m [] → map (own_in bs) (entries m 0 None) ≡ map own_of (files m)
