-- The files of a model, numbered from 0: each module, then its submodules in turn.
use Rattle.std.specs.Prelude.{ℕ, ◌+◌, List, [], ◌∷◌, ◌++◌, Some, Option}
use Rattle.model.specs.declared.files.File.{File}
use Rattle.model.specs.Tree.{Text, Module, Modules, pymodule, no_module, add_module}

-- the modules in file order
abbrev mutual
  pub files : Module → List Module
  files (pymodule p s modules own classes functions attributes) =
      pymodule p s modules own classes functions attributes ∷ files_in modules

  pub files_in : Modules → List Module
  files_in no_module = []
  files_in (add_module m ms) = files m ++ files_in ms

-- A file in short is its module's place, the number of the file whose module holds it, and where its own declarations start.
abbrev pub file : ℕ → Option ℕ → ℕ → File
file p h own = record { place = p; holder = h; own = own }

abbrev mutual
  pub modules_within : Module → ℕ
  modules_within (pymodule p s modules own classes functions attributes) = 1 + modules_in modules

  pub modules_in : Modules → ℕ
  modules_in no_module = 0
  modules_in (add_module m ms) = modules_within m + modules_in ms

-- a module and all below it in short, when its own number is k and it is held by h
abbrev mutual
  pub entries : Module → ℕ → Option ℕ → List File
  entries (pymodule p s modules own classes functions attributes) k h = file p h own ∷ entries_in modules (k + 1) (Some k)

  pub entries_in : Modules → ℕ → Option ℕ → List File
  entries_in no_module k h = []
  entries_in (add_module m ms) k h = entries m k h ++ entries_in ms (k + modules_within m) h

-- a module by who holds it: siblings are those that one file's module holds
pub record Held : Type 0 where
  pub place : ℕ
  pub holder : Option ℕ
  pub name : Text

abbrev pub held : ℕ → Option ℕ → Text → Held
held p h s = record { place = p; holder = h; name = s }

abbrev mutual
  pub helds : Module → ℕ → Option ℕ → List Held
  helds (pymodule p s modules own classes functions attributes) k h = held p h s ∷ helds_in modules (k + 1) (Some k)

  pub helds_in : Modules → ℕ → Option ℕ → List Held
  helds_in no_module k h = []
  helds_in (add_module m ms) k h = helds m k h ++ helds_in ms (k + modules_within m) h
