-- The lines by which a file imports what its names are bound to: one for each module, in the order of their bytes.
use Rattle.std.specs.Prelude.{Bool, cond, not, ◌&&◌, List, [], ◌∷◌, ◌++◌, map, codes, filter}
use Rattle.std.specs.Cmp.Lexicographic.{slice_cmp}
use Rattle.std.specs.Ordering.{match_ordering, nat_cmp}
use Rattle.model.specs.Tree.{Text}
use Rattle.model.specs.Uses.{builtins}
use Rattle.model.specs.Limits.{same_text_of}
use Rattle.paths.specs.Paths.{relative_text}
use Rattle.binding.specs.Binding.{Binding}

-- Python knows a builtin under its own name, and the own module's names are declared in the file
abbrev pub imported : Text → Binding → Bool
imported own e = not (same_text_of e.target.0 own) && not (same_text_of e.target.0 builtins && same_text_of e.name e.target.1)

-- a root attribute, and the name that it is imported under
pub record Import : Type 0 where
  pub root : Text
  pub name : Text

abbrev pub import' : Text → Text → Import
import' root name = record { root = root; name = name }

pub record Line : Type 0 where
  pub from : Text
  pub imports : List Import

abbrev pub line : Text → List Import → Line
line from imports = record { from = from; imports = imports }

abbrev pub import_of : Binding → Import
import_of e = import' e.target.1 e.name

abbrev pub line_of : Binding → Line
line_of e = line e.target.0 (import_of e ∷ [])

-- a line before others: where the first of those is of the same module, the two make one
abbrev pub before : Line → List Line → List Line
before l [] = l ∷ []
before l (k ∷ ks) = cond (same_text_of l.from k.from) (line l.from (l.imports ++ k.imports) ∷ ks) (l ∷ k ∷ ks)

-- neighbouring bindings of one module make one line
abbrev pub grouped : List Binding → List Line
grouped [] = []
grouped (e ∷ b) = before (line_of e) (grouped b)

-- the lines of what is imported
abbrev pub lines_of : Text → List Binding → List Line
lines_of own b = grouped (filter (imported own) b)

-- How a line is written

abbrev pub import_text : Import → Text
import_text i = cond (same_text_of i.root i.name) i.root (i.root ++ (codes " as " ++ i.name))

abbrev pub others_text : List Import → Text
others_text [] = []
others_text (i ∷ is) = codes ", " ++ (import_text i ++ others_text is)

abbrev pub imports_text : List Import → Text
imports_text [] = []
imports_text (i ∷ is) = import_text i ++ others_text is

-- what stands before the names
abbrev pub start_text : Text → Text → Text
start_text base from = codes "from " ++ (relative_text base from ++ codes " import ")

abbrev pub line_text : Text → Line → Text
line_text base l = start_text base l.from ++ imports_text l.imports

-- In the order of their bytes, a proper beginning first

-- t put before the first one above it, unless it is there
abbrev pub placed : Text → List Text → List Text
placed t [] = t ∷ []
placed t (s ∷ ss) = match_ordering (slice_cmp nat_cmp t s) (t ∷ s ∷ ss) (s ∷ ss) (s ∷ placed t ss)

abbrev pub sorted_texts : List Text → List Text
sorted_texts [] = []
sorted_texts (t ∷ ts) = placed t (sorted_texts ts)

unfoldable pub import_lines_of : Text → Text → List Binding → List Text
import_lines_of own base b = sorted_texts (map (line_text base) (lines_of own b))
