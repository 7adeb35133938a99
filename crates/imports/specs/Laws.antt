-- What the import lines of a file are worth.
use Rattle.std.specs.Prelude.{◌≡◌, ℕ, ◌+◌, ◌<◌, cond, ◌≢◌, List, [], ◌∷◌, ◌++◌, map, length, Some, None, filter, Option}
use Rattle.std.specs.List.{AllByRecursion}
use Rattle.std.specs.Cmp.Lexicographic.{slice_cmp}
use Rattle.std.specs.List.Sorted.{IsStrictlySortedBy}
use Rattle.model.specs.Tree.{Text}
use Rattle.model.specs.Uses.{Use}
use Rattle.model.specs.Limits.{same_text_of}
use Rattle.paths.specs.Paths.{split}
use Rattle.paths.specs.Laws.{SomeByte}
use Rattle.references.specs.References.{references}
use Rattle.binding.specs.Binding.{Target, Binding, binding, by_number, name_of, take_all_of, bound, declared_by}
use Rattle.binding.specs.Laws.{Member, Exactly}
use Rattle.imports.specs.Lines.{imported, Import, Line, lines_of, line_text, import_lines_of}
use Rattle.std.specs.Ordering.{nat_cmp}

-- what a line binds
abbrev pub bindings_in : Line → List Binding
bindings_in l = map (λ i. binding i.name (l.from, i.root)) l.imports

abbrev pub all_bindings : List Line → List Binding
all_bindings [] = []
all_bindings (l ∷ ls) = bindings_in l ++ all_bindings ls

-- how many imports of a target there are

abbrev pub times_in : Text → List Import → ℕ
times_in root [] = 0
times_in root (i ∷ is) = cond (same_text_of root i.root) 1 0 + times_in root is

abbrev pub times : Target → List Line → ℕ
times t [] = 0
times t (l ∷ ls) = cond (same_text_of t.0 l.from) (times_in t.1 l.imports) 0 + times t ls

-- one for a target that has a name and is imported under that, and none for any other
abbrev pub due : Text → Target → Option Text → ℕ
due own t None = 0
due own t (Some w) = cond (imported own (binding w t)) 1 0

abbrev pub Apart : List Text → Type 0
Apart [] = Unit {0}
Apart (x ∷ xs) = AllByRecursion (λ y. x ≢ y) xs × Apart xs

-- the lines import what b binds and Python has not otherwise, each target once
pub record Imports (own : Text) (b : List Binding) (lines : List Line) : Type 0 where
  -- the imports, line by line, are the bindings that are to be imported, in their order
  pub all : all_bindings lines ≡ filter (imported own) b
  pub some : AllByRecursion (λ l. 0 < length l.imports) lines
  -- no two lines are of one module
  pub apart : Apart (map (λ l. l.from) lines)
  pub counts : (t : Target) → times t lines ≡ due own t (name_of b t)

-- 32 is the space
abbrev pub NoSpace : Text → Type 0
NoSpace p = AllByRecursion (λ c. c ≢ 32) p

-- a dotted name: no part of it, between dots, is empty or has a space
abbrev pub DottedName : Text → Type 0
DottedName m = AllByRecursion SomeByte (split m) × AllByRecursion NoSpace (split m)

-- the texts are those of the lines, in strict order
pub record Written (own base : Text) (us : List Use) (b : List Binding) : Type 0 where
  pub ascends : IsStrictlySortedBy (slice_cmp nat_cmp) (import_lines_of own base b)
  pub members : (t : Text) → Exactly (Member t (import_lines_of own base b)) (Member t (map (line_text base) (lines_of own b)))
  -- and there are as many, where the modules are named by dotted names
  pub many : AllByRecursion (λ u. DottedName u.from) us → length (import_lines_of own base b) ≡ length (lines_of own b)

abbrev pub LinesImport : Type 0
LinesImport =
    (us : List Use) (ds : List Text) (own base : Text) (b : List Binding) → take_all_of by_number (declared_by own ds) (references us) ≡ bound b
    → Imports own b (lines_of own b) × Written own base us b

-- the module of a line can be read off its text
abbrev pub LinesTell : Type 0
LinesTell =
    (base : Text) (l k : Line) → DottedName l.from → DottedName k.from → line_text base l ≡ line_text base k → l.from ≡ k.from
