-- What paths are for: Python finds the target by them.
use Rattle.std.specs.Prelude.{◌≡◌, ℕ, ◌<◌, ◌≢◌, List, [], ◌∷◌, map, length, Some, codes}
use Rattle.std.specs.List.{AllByRecursion}
use Rattle.paths.specs.Paths.{Path, path_text, relative, relative_text, resolve, read_path, split}

-- from any base, the path of a target leads to that target
abbrev pub PathsResolve : Type 0
PathsResolve = (base target : List (List ℕ)) → resolve base (relative base target) ≡ Some target

abbrev pub SomeByte : List ℕ → Type 0
SomeByte p = 0 < length p

abbrev pub NoDot : List ℕ → Type 0
NoDot p = AllByRecursion (λ b. b ≢ 46) p

-- a path is read back from its text, where its parts are parts: none is empty, and none has a dot
abbrev pub PathsRead : Type 0
PathsRead = (p : Path) → AllByRecursion SomeByte p.parts → AllByRecursion NoDot p.parts → read_path (path_text p) ≡ p

-- so the text of a path leads to its target, where no part of that is empty
abbrev pub TextsResolve : Type 0
TextsResolve =
    (base target : List ℕ) → AllByRecursion SomeByte (split target) → resolve (split base) (read_path (relative_text base target)) ≡ Some (split target)

-- the path from one module to another
pub record Example : Type 0 where
  pub base : List ℕ
  pub target : List ℕ
  pub path : List ℕ

abbrev pub examples : List Example
examples =
    record { base = codes "r.a"; target = codes "r"; path = codes ".." }
    ∷ record { base = codes "r.a"; target = codes "r.b"; path = codes "..b" }
    ∷ record { base = codes "r.a"; target = codes "r.a.c"; path = codes ".c" }
    ∷ record { base = codes "r.a"; target = codes "r.a"; path = codes "." }
    ∷ record { base = codes "r.a"; target = codes "s.t"; path = codes "s.t" }
    ∷ record { base = codes "r"; target = codes "r"; path = codes "." }
    ∷ record { base = codes "r"; target = codes "r.b"; path = codes ".b" }
    ∷ record { base = codes "r"; target = codes "r.a.c"; path = codes ".a.c" }
    ∷ record { base = codes "r.ab"; target = codes "r.a.c"; path = codes "..a.c" }
    ∷ []

abbrev pub WorkedCases : Type 0
WorkedCases = map (λ e. relative_text e.base e.target) examples ≡ map (λ e. e.path) examples
