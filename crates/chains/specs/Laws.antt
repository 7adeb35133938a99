-- What the names and the bases are worth.
use Rattle.std.specs.Prelude.{◌≡◌, ℕ, Bool, true, false, List, [], ◌∷◌, map, Some, None, codes, slice_index_or}
use Rattle.std.specs.List.{AllByRecursion}
use Rattle.model.specs.Tree.{Module}
use Rattle.model.specs.Read.{read, model, deepest_allowed}
use Rattle.model.specs.Laws.{Bytes}
use Rattle.model.specs.Files.{entries}
use Rattle.paths.specs.Paths.{join, split, relative_text, read_path, resolve}
use Rattle.paths.specs.Laws.{NoDot, SomeByte}
use Rattle.chains.specs.Chains.{own_names, packages, own_in, package_in, base_of}

-- by a model's list of files in short, the names and the packages of its tree are found, and no name past the last file
pub record Reached (bs : List ℕ) (m : Module) : Type 0 where
  pub names : (k : ℕ) → own_in bs (entries m 0 None) deepest_allowed k ≡ slice_index_or (own_names m) k []
  pub flags : map (package_in bs) (entries m 0 None) ≡ packages m

abbrev pub ModulesReached : Type 0
ModulesReached = (bs : List ℕ) → Bytes bs → (m : Module) → model bs ≡ read m [] → Reached bs m

abbrev pub without_last : {A : Type 0} → List A → List A
without_last [] = []
without_last (x ∷ []) = []
without_last (x ∷ (y ∷ ys)) = x ∷ without_last (y ∷ ys)

-- where Python counts from, by the parts of a module's name: a package from itself, a plain module from its parent
abbrev pub python_base : List (List ℕ) → Bool → List (List ℕ)
python_base chain true = chain
python_base chain false = without_last chain

-- the base, which is made from a text, has the parts that Python counts from, where there is a package to count from
pub record BasesLead : Type 0 where
  pub of_package : (p : List ℕ) (ps : List (List ℕ)) → AllByRecursion NoDot (p ∷ ps) → split (base_of (join (p ∷ ps)) true) ≡ p ∷ ps
  pub of_plain : (p : List ℕ) (ps : List (List ℕ)) → AllByRecursion NoDot (p ∷ ps) → base_of (join (p ∷ ps)) false ≡ join (without_last (p ∷ ps))
  pub parent : (p q : List ℕ) (qs : List (List ℕ)) → AllByRecursion NoDot (p ∷ (q ∷ qs)) → split (base_of (join (p ∷ (q ∷ qs))) false) ≡ without_last (p ∷ (q ∷ qs))

-- So Python finds the target from the module by the text of the path that is written there. No chain has to be left out:
-- from a plain root, which has no package to count from, the path is the target itself.
abbrev pub ImportsResolve : Type 0
ImportsResolve =
    (chain : List (List ℕ)) → AllByRecursion NoDot chain → (is_package : Bool) (target : List ℕ) → AllByRecursion SomeByte (split target) →
    resolve (python_base chain is_package) (read_path (relative_text (base_of (join chain) is_package) target)) ≡ Some (split target)

-- how a module's import writes another module
pub record Example : Type 0 where
  pub own : List ℕ
  pub is_package : Bool
  pub target : List ℕ
  pub path : List ℕ

abbrev pub examples : List Example
examples =
    record { own = codes "r.a"; is_package = false; target = codes "r"; path = codes "." }
    ∷ record { own = codes "r.a"; is_package = false; target = codes "r.b"; path = codes ".b" }
    ∷ record { own = codes "r.a"; is_package = false; target = codes "r.a.c"; path = codes ".a.c" }
    ∷ record { own = codes "r.a"; is_package = false; target = codes "s.t"; path = codes "s.t" }
    ∷ record { own = codes "r.a"; is_package = true; target = codes "r"; path = codes ".." }
    ∷ record { own = codes "r.a"; is_package = true; target = codes "r.b"; path = codes "..b" }
    ∷ record { own = codes "r.a"; is_package = true; target = codes "r.a.c"; path = codes ".c" }
    ∷ record { own = codes "r.a"; is_package = true; target = codes "s.t"; path = codes "s.t" }
    ∷ record { own = codes "r"; is_package = true; target = codes "r.b"; path = codes ".b" }
    ∷ []

abbrev pub WorkedCases : Type 0
WorkedCases = map (λ e. relative_text (base_of e.own e.is_package) e.target) examples ≡ map (λ e. e.path) examples
