-- The references of a file: the attributes of modules that it uses, each once, in the order of their texts.
use Rattle.std.specs.Prelude.{ℕ, Bool, cond, not, ◌&&◌, List, [], ◌∷◌, map, ◌==◌}
use Rattle.std.specs.declared.cmp.Ordering.{Ordering}
use Rattle.std.specs.Ordering.{ordering_then, nat_cmp, match_ordering}
use Rattle.std.specs.Cmp.Lexicographic.{slice_cmp}
use Rattle.model.specs.Uses.{Use, Declared}
use Rattle.model.specs.Limits.{occurs, same_text_of, same_reference}
use Rattle.paths.specs.Paths.{first_part}
use Rattle.model.specs.declared.uses.Reference.{Reference as ReferenceOf}

-- a module and its attribute
abbrev pub Reference : Type 0
Reference = List ℕ × List ℕ

abbrev pub reference_of : Use → Reference
reference_of u = (u.from, u.name)

-- what a reference of the code stands for
abbrev pub pair_of : ReferenceOf → Reference
pair_of r = (r.from.now, r.name.now)

-- by the module, then by the attribute, each by its bytes, a proper beginning first
abbrev pub order : Reference → Reference → Ordering
order x y = ordering_then (slice_cmp nat_cmp x.0 y.0) (slice_cmp nat_cmp x.1 y.1)

-- r put before the first one above it, unless it is there
abbrev pub placed : Reference → List Reference → List Reference
placed r [] = r ∷ []
placed r (s ∷ ss) = match_ordering (order r s) (r ∷ s ∷ ss) (s ∷ ss) (s ∷ placed r ss)

abbrev pub sorted : List Reference → List Reference
sorted [] = []
sorted (r ∷ rs) = placed r (sorted rs)

unfoldable pub references : List Use → List Reference
references us = sorted (map reference_of us)

-- An attribute may have dots. Its root, before the first one, is what the module itself has to have.
abbrev pub root_of : List ℕ → List ℕ
root_of name = first_part name

-- the first dot, which is 46, and what stands behind it
abbrev pub rest_of : List ℕ → List ℕ
rest_of [] = []
rest_of (b ∷ bs) = cond (b == 46) (b ∷ bs) (rest_of bs)

-- the places of the uses that a test takes
abbrev pub places_by : (Use → Bool) → List Use → List ℕ
places_by test [] = []
places_by test (u ∷ us) = cond (test u) (u.place ∷ places_by test us) (places_by test us)

-- where a reference is used
abbrev pub use_places : Reference → List Use → List ℕ
use_places r us = places_by (λ u. same_reference (reference_of u) r) us

abbrev pub name_of : Declared → List ℕ
name_of d = d.name

-- whether a use is of the own module, and its root is none of the names
abbrev pub lacks : List ℕ → List (List ℕ) → Use → Bool
lacks own names u = same_text_of u.from own && not (occurs same_text_of (root_of u.name) names)

-- where a file uses a name of its own module that it does not declare
abbrev pub undeclared : List ℕ → List Declared → List Use → List ℕ
undeclared own ds us = places_by (lacks own (map name_of ds)) us
