-- What a set of lines holds, by their bytes and never by where those lie.
use Rattle.std.specs.Prelude.{◌≡◌, ℕ, ◌||◌, List, [], ◌∷◌, map, vec_items, Vec}
use Rattle.std.specs.declared.cmp.Ordering.{Ordering}
use Rattle.std.specs.BTreeSet.{BTreeSet}
use Rattle.std.specs.Ordering.{nat_cmp}
use Rattle.std.specs.Cmp.{IsTotalOrder, nat_cmp_total, on_total}
use Rattle.std.specs.Cmp.Lexicographic.{slice_cmp, lists_total}
use Rattle.std.specs.BTreeSet.{IsOrdered, keys}
use Rattle.model.specs.Tree.{Text}
use Rattle.model.specs.Limits.{occurs, same_text_of}

-- the order of lines: by their bytes
abbrev pub line_cmp : {Y : Type 0} → Vec ℕ Y → Vec ℕ Y → Ordering
line_cmp x y = slice_cmp nat_cmp x.items y.items

abbrev pub by_bytes : {Y : Type 0} → IsTotalOrder (line_cmp {Y = Y})
by_bytes = on_total vec_items (lists_total nat_cmp_total)

abbrev pub texts_in : {Y : Type 0} → BTreeSet (Vec ℕ Y) → List Text
texts_in s = map vec_items (keys s)

-- a line that is begun is not empty
abbrev pub begun : Text → List Text
begun [] = []
begun (c ∷ cs) = (c ∷ cs) ∷ []

-- s has grown to n by a line, where that is begun
abbrev pub Puts : {Y : Type 0} → BTreeSet (Vec ℕ Y) → Text → BTreeSet (Vec ℕ Y) → Type 0
Puts s t n = IsOrdered line_cmp s → IsOrdered line_cmp n × ((q : Text) → occurs same_text_of q (texts_in n) ≡ (occurs same_text_of q (begun t) || occurs same_text_of q (texts_in s)))
