-- What the names of a file are worth, for every file of every model that loads.
use Rattle.std.specs.Prelude.{◌≡◌, ℕ, ◌<◌, ◌≤◌, Bool, true, ◌⊎◌, List, [], map, length, is_some, Some}
use Rattle.std.specs.List.{AllByRecursion}
use Rattle.std.specs.List.{slice_get}
use Rattle.text.specs.Names.{spelled, Identifier, Dotted}
use Rattle.model.specs.Tree.{Text, Module, pymodule}
use Rattle.model.specs.Read.{read, model}
use Rattle.model.specs.Files.{files}
use Rattle.model.specs.Uses.{Use, Declared, collected, declarations}
use Rattle.model.specs.Laws.{Bytes}
use Rattle.rules.specs.Meets.{Loads}
use Rattle.paths.specs.Paths.{first_part, split, relative_text, read_path, resolve}
use Rattle.paths.specs.Laws.{NoDot}
use Rattle.chains.specs.Chains.{chains, own_names, packages, base_of}
use Rattle.chains.specs.Laws.{Reached, python_base}
use Rattle.references.specs.References.{Reference, reference_of, references, root_of, name_of}
use Rattle.references.specs.Laws.{Lists}
use Rattle.binding.specs.Binding.{Binding, by_number, local_name}
use Rattle.binding.specs.Laws.{Member, Exactly, Tells, RunsOut}
use Rattle.imports.specs.Lines.{lines_of, import_lines_of}
use Rattle.imports.specs.Laws.{Imports, Written}
use Rattle.resolver.specs.Resolved.{Resolved, resolved, refused, resolution}

-- ---- The files of a model

-- the file with this number: its module, the dotted name of that, and whether it is a package
pub record FileOf (m : Module) (k : ℕ) : Type 0 where
  pub self : Module
  pub is : slice_get (files m) k ≡ Some self
  pub own : Text
  pub called : slice_get (own_names m) k ≡ Some own
  pub is_package : Bool
  pub flagged : slice_get (packages m) k ≡ Some is_package

-- what a module itself collects and declares
abbrev pub collects : Module → List Use
collects (pymodule p s modules own classes functions attributes) = collected classes functions attributes

abbrev pub declares : Module → List Declared
declares (pymodule p s modules own classes functions attributes) = declarations classes functions attributes

-- ---- How the names that a file is made of are shaped

pub record Shaped (own : Text) (ds : List Declared) (us : List Use) : Type 0 where
  -- the module of a collected reference and its attribute are dotted names, and its root is an identifier
  pub modules : AllByRecursion (λ u. Dotted u.from) us
  pub attributes : AllByRecursion (λ u. Dotted u.name) us
  pub roots : AllByRecursion (λ u. Identifier (root_of u.name)) us
  pub declared : AllByRecursion (λ d. Identifier (name_of d)) ds
  -- the own module's name has identifiers between its dots; as a whole it may be longer than a dotted name in a model
  pub called : AllByRecursion Identifier (split own)

-- ---- How the names of a file come out

-- a use of which P holds is collected at this place
pub record UseAt (us : List Use) (P : Use → Type 0) (p : ℕ) : Type 0 where
  pub there : Use
  pub collected : Member there us
  pub at : there.place ≡ p
  pub holds : P there

-- p is the least place of which P holds
pub record First (P : ℕ → Type 0) (p : ℕ) : Type 0 where
  pub here : P p
  pub least : (q : ℕ) → P q → p ≤ q

-- a use of the own module whose root is none of the declared names stands at this place
abbrev pub UndeclaredAt : Text → List Declared → List Use → ℕ → Type 0
UndeclaredAt own ds us p = UseAt us (λ u. (u.from ≡ own) × (Member (root_of u.name) (map name_of ds) → ⊥)) p

abbrev pub NoneUndeclared : Text → List Declared → List Use → Type 0
NoneUndeclared own ds us = (p : ℕ) → UndeclaredAt own ds us p → ⊥

-- the reference is used at this place
abbrev pub UsedAt : List Use → Reference → ℕ → Type 0
UsedAt us r p = UseAt us (λ u. reference_of u ≡ r) p

-- all proposals for a reference of the file are used up by others
abbrev pub Nameless : Text → List Declared → List Use → Reference → Type 0
Nameless own ds us r = RunsOut by_number own (map name_of ds) (references us) r

-- some reference is so, and p is the least place at which it is used; since it is one of the file, there is such a place
pub record NamelessFrom (own : Text) (ds : List Declared) (us : List Use) (p : ℕ) : Type 0 where
  pub reference : Reference
  pub nameless : Nameless own ds us reference
  pub first : First (UsedAt us reference) p

-- refused by 10, refused by 11, or resolved
abbrev pub OneOfThree : Resolved → Type 0
OneOfThree x =
    ((p : ℕ) × (x ≡ refused 10 p)) ⊎ (((p : ℕ) × (x ≡ refused 11 p)) ⊎ ((b : List Binding) × (x ≡ resolved b)))

-- Each of the three comes exactly for its reason: 10 before 11, and names where there is no reason for either.
pub record Outcome (own : Text) (ds : List Declared) (us : List Use) : Type 0 where
  pub ways : OneOfThree (resolution own ds us)
  pub by10 : (p : ℕ) → Exactly (resolution own ds us ≡ refused 10 p) (First (UndeclaredAt own ds us) p)
  pub by11 : (p : ℕ) → Exactly (resolution own ds us ≡ refused 11 p) (NoneUndeclared own ds us × NamelessFrom own ds us p)
  pub resolves : Exactly ((b : List Binding) × (resolution own ds us ≡ resolved b)) (NoneUndeclared own ds us × ((r : Reference) → Nameless own ds us r → ⊥))

-- ---- What the names b of a file are worth

-- counting from the file where Python does, the path that is written for a module is that module
abbrev pub Leads : Text → Bool → Text → Type 0
Leads own is_package target =
    resolve (python_base (split own) is_package) (read_path (relative_text (base_of own is_package) target)) ≡ Some (split target)

pub record Worth (own : Text) (is_package : Bool) (ds : List Declared) (us : List Use) (b : List Binding) : Type 0 where
  -- names and targets are bound one to one, each under the lowest name that was free, and nothing else is bound
  pub tells : Tells by_number own (map name_of ds) (references us) b
  -- each bound name is spelled like an identifier, and so has no dot
  pub names : AllByRecursion (λ e. spelled e.name ≡ true) b
  pub undotted : AllByRecursion (λ e. NoDot e.name) b
  -- each reference has a local name, and two local names are the same up to the first dot exactly if module and root are
  pub named : (r : Reference) → Member r (references us) → is_some (local_name b r) ≡ true
  pub same :
      (r s : Reference) → Member r (references us) → Member s (references us) → (v w : Text) → local_name b r ≡ Some v → local_name b s ≡ Some w
      → Exactly (first_part v ≡ first_part w) ((r.0 ≡ s.0) × (root_of r.1 ≡ root_of s.1))
  -- and the same as a whole exactly if the references are
  pub one :
      (r s : Reference) → Member r (references us) → Member s (references us) → (v w : Text) → local_name b r ≡ Some v → local_name b s ≡ Some w
      → Exactly (v ≡ w) (r ≡ s)
  -- the import lines bind each target that Python has not otherwise, once; there is one line for each module
  pub imports : Imports own b (lines_of own b)
  -- the lines as they are written, in strict order and as many
  pub written : Written own (base_of own is_package) us b
  pub many : length (import_lines_of own (base_of own is_package) b) ≡ length (lines_of own b)
  -- each of them leads to its module
  pub leads : AllByRecursion (λ l. Leads own is_package l.from) (lines_of own b)

-- ---- The law

-- what holds of a model's files, where m is its tree
pub record OfModel (bs : List ℕ) (m : Module) : Type 0 where
  pub is : model bs ≡ read m []
  -- the dotted names of the files and which are packages, as found in the bytes, are those of the tree
  pub reached : Reached bs m
  -- each number below that of the modules is a file's
  pub file : (k : ℕ) → k < length (files m) → FileOf m k
  -- the parts of a file's own name are the names of the modules from the root down to its own
  pub chain : (k : ℕ) (f : FileOf m k) → slice_get (chains m []) k ≡ Some (split f.own)
  -- its references are those of what it collects, each once, in order
  pub listed : (k : ℕ) (f : FileOf m k) → Lists (collects f.self) (references (collects f.self))
  pub shaped : (k : ℕ) (f : FileOf m k) → Shaped f.own (declares f.self) (collects f.self)
  -- its names come out in one of three ways, each for its reason
  pub outcome : (k : ℕ) (f : FileOf m k) → Outcome f.own (declares f.self) (collects f.self)
  -- and where there are names, they are worth this
  pub worth : (k : ℕ) (f : FileOf m k) (b : List Binding) → resolution f.own (declares f.self) (collects f.self) ≡ resolved b
      → Worth f.own f.is_package (declares f.self) (collects f.self) b

abbrev pub NamesOfLoaded : Type 0
NamesOfLoaded = (bs : List ℕ) → Bytes bs → (l : Loads bs) → OfModel bs l.tree
