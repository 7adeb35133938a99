-- Paths between modules, as Python's import statements write them: names with dots between their parts, and before
-- them a dot for the base, the package that the import counts from, and one more for each package above it.
use Rattle.std.specs.Prelude.{ℕ, zero, suc, ◌-◌, cond, List, [], ◌∷◌, ◌++◌, length, take, drop, replicate, Some, None, Option, ◌==◌, nat_lt}
use Rattle.std.specs.Str.{bytes_eq}

-- A name and its parts: 46 is the dot

-- what stands before the first dot
abbrev pub first_part : List ℕ → List ℕ
first_part [] = []
first_part (b ∷ bs) = cond (b == 46) [] (b ∷ first_part bs)

-- the parts after the first dot
abbrev pub other_parts : List ℕ → List (List ℕ)
other_parts [] = []
other_parts (b ∷ bs) = cond (b == 46) (first_part bs ∷ other_parts bs) (other_parts bs)

-- a text without dots is one part
abbrev pub split : List ℕ → List (List ℕ)
split bs = first_part bs ∷ other_parts bs

abbrev pub join_from : List ℕ → List (List ℕ) → List ℕ
join_from p [] = p
join_from p (q ∷ qs) = p ++ 46 ∷ join_from q qs

abbrev pub join : List (List ℕ) → List ℕ
join [] = []
join (p ∷ ps) = join_from p ps

-- how many leading parts are the same
abbrev pub common : List (List ℕ) → List (List ℕ) → ℕ
common [] ts = 0
common (b ∷ bs) [] = 0
common (b ∷ bs) (t ∷ ts) = cond (bytes_eq b t) (suc (common bs ts)) 0

pub record Path : Type 0 where
  pub dots : ℕ
  pub parts : List (List ℕ)

abbrev pub path_text : Path → List ℕ
path_text p = replicate p.dots 46 ++ join p.parts

-- with none in common, the target itself; with k in common, one dot more than the base has other parts, and the target's
-- other parts
abbrev pub relative_by : ℕ → List (List ℕ) → List (List ℕ) → Path
relative_by zero base target = record { dots = 0; parts = target }
relative_by (suc k) base target = record { dots = suc (length base - suc k); parts = drop (suc k) target }

abbrev pub relative : List (List ℕ) → List (List ℕ) → Path
relative base target = relative_by (common base target) base target

-- the text of the path, for base and target as dotted texts
unfoldable pub relative_text : List ℕ → List ℕ → List ℕ
relative_text base target = path_text (relative (split base) (split target))

-- What Python makes of a path

-- no dots: the parts themselves; n dots: the base without its last n - 1 parts, and then the parts; there is nothing above
-- the base's first part
abbrev pub resolve_by : ℕ → List (List ℕ) → List (List ℕ) → Option (List (List ℕ))
resolve_by zero base ps = Some ps
resolve_by (suc up) base ps = cond (nat_lt up (length base)) (Some (take (length base - up) base ++ ps)) None

abbrev pub resolve : List (List ℕ) → Path → Option (List (List ℕ))
resolve base p = resolve_by p.dots base p.parts

-- a text as a path: its leading dots, and the parts of what follows them, where anything does

abbrev pub leading : List ℕ → ℕ
leading [] = 0
leading (b ∷ bs) = cond (b == 46) (suc (leading bs)) 0

abbrev pub after_dots : List ℕ → List ℕ
after_dots [] = []
after_dots (b ∷ bs) = cond (b == 46) (after_dots bs) (b ∷ bs)

abbrev pub parts_of : List ℕ → List (List ℕ)
parts_of [] = []
parts_of (b ∷ bs) = split (b ∷ bs)

unfoldable pub read_path : List ℕ → Path
read_path bs = record { dots = leading bs; parts = parts_of (after_dots bs) }
