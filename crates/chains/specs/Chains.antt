-- The dotted name of each file's module, whether that is a package, and the base from which its imports count.
use Rattle.std.specs.Prelude.{ℕ, zero, suc, Bool, true, false, cond, not, ◌||◌, List, [], ◌∷◌, ◌++◌, map, drop, is_some, Some, None, Option, ◌==◌}
use Rattle.std.specs.List.{slice_get}
use Rattle.model.specs.declared.files.File.{File}
use Rattle.model.specs.Tree.{Text, Module, Modules, pymodule, no_module, add_module}
use Rattle.model.specs.Files.{files_in}
use Rattle.model.specs.Read.{bit}
use Rattle.walk.specs.Total.{number, text}
use Rattle.paths.specs.Paths.{join}

-- In the tree

-- each file's chain of names, in file order, below the names above it
abbrev mutual
  pub chains : Module → List Text → List (List Text)
  chains (pymodule p s modules own classes functions attributes) above = (above ++ s ∷ []) ∷ chains_in modules (above ++ s ∷ [])

  pub chains_in : Modules → List Text → List (List Text)
  chains_in no_module above = []
  chains_in (add_module m ms) above = chains m above ++ chains_in ms above

-- the dotted names, in file order
abbrev pub own_names : Module → List (List ℕ)
own_names m = map join (chains m [])

abbrev pub has_submodules : Module → Bool
has_submodules (pymodule p s no_module own classes functions attributes) = false
has_submodules (pymodule p s (add_module m ms) own classes functions attributes) = true

-- in file order: the root is a package, and every other module exactly if it has submodules
abbrev pub packages : Module → List Bool
packages (pymodule p s modules own classes functions attributes) = true ∷ map has_submodules (files_in modules)

-- From the bytes of a model and its files in short, whatever they are

-- the map and the name in a file's record
abbrev pub map_of : List ℕ → File → ℕ
map_of bs f = (number (drop f.place bs)).0

abbrev pub name_of : List ℕ → File → Text
name_of bs f = (text (number (drop f.place bs)).1).0

-- what stands before a file's name: the holder's own name and a dot
abbrev pub before : Option ℕ → (ℕ → List ℕ) → List ℕ
before None own = []
before (Some holder) own = own holder ++ 46 ∷ []

abbrev pub named_in : List ℕ → Option File → (ℕ → List ℕ) → List ℕ
named_in bs None own = []
named_in bs (Some f) own = before f.holder own ++ name_of bs f

-- the dotted name of the file with this number, through so many holders at most
unfoldable pub own_in : List ℕ → List File → ℕ → ℕ → List ℕ
own_in bs files zero k = []
own_in bs files (suc d) k = named_in bs (slice_get files k) (own_in bs files d)

abbrev pub package_in : List ℕ → File → Bool
package_in bs f = not (is_some f.holder) || bit (map_of bs f) 1

-- Where imports count from

abbrev pub has_dot : List ℕ → Bool
has_dot [] = false
has_dot (b ∷ bs) = b == 46 || has_dot bs

-- what stands before the last dot: empty where there is none
abbrev pub before_last_dot : List ℕ → List ℕ
before_last_dot [] = []
before_last_dot (b ∷ bs) = cond (has_dot bs) (b ∷ before_last_dot bs) []

-- A package is its own base; any other module's is its parent.
abbrev pub base_of : List ℕ → Bool → List ℕ
base_of own true = own
base_of own false = before_last_dot own
