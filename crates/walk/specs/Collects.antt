-- What is collected of a file.
use Rattle.std.specs.Prelude.{◌≡◌, ℕ, Bool, List, [], ◌∷◌, ◌++◌, map, vec_items, Ok, Result}
use Rattle.std.specs.Borrow.{MutBor}
use Rattle.std.specs.Fn.{Shared}
use Rattle.std.specs.declared.alloc.AllocError.{AllocError}
use Rattle.model.specs.declared.files.File.{File}
use Rattle.model.specs.Uses.{Use, Declared, collected, declarations}
use Rattle.model.specs.Steps.{use_of, declared_of}
use Rattle.walk.specs.Total.{Own, own_in, count}
use Rattle.walk.specs.Walks.{left, gathered}
use Rattle.walk.specs.Repeats.{Repeats}
use Rattle.model.specs.declared.uses.Declared.{Declared as DeclaredOf}
use Rattle.walk.specs.declared.walker.Walker.{Walker}
use Rattle.walk.specs.declared.collector.Collected.{Collected}
use Rattle.walk.specs.declared.collector.Collector.{Collector}

abbrev pub uses_in : Own → List Use
uses_in o = collected o.classes o.functions o.attributes

abbrev pub declared_in : Own → List Declared
declared_in o = declarations o.classes o.functions o.attributes

-- the references and the declared names of a file of the model bs
pub record Collects (bs : List ℕ) (file : File) (v : Collected) : Type 0 where
  pub uses : map use_of (vec_items v.uses) ≡ uses_in (own_in bs file)
  pub declared : map declared_of (vec_items v.declared) ≡ declared_in (own_in bs file)

-- f may walk a record, and what it declares comes behind what is declared
pub record Declares {F : Type 0} (g : Shared F (MutBor Walker × (ℕ × Unit {0})) (Result DeclaredOf AllocError × (MutBor Walker × Unit {0}))) (f : F) (depth : ℕ) (before after : Collector) : Type 0 where
  pub shown : MutBor Walker
  pub shows : shown.now ≡ before.walker
  pub one : DeclaredOf
  pub left : MutBor Walker
  pub met : g.post f (shown, (depth, tt)) (Ok one, (left, tt))
  pub leaves : left.now ≡ after.walker
  pub declared : vec_items after.declared ≡ vec_items before.declared ++ one ∷ []

-- f may walk each record of a list field, behind its count
pub record DeclaresEach {F : Type 0} (g : Shared F (MutBor Walker × (ℕ × Unit {0})) (Result DeclaredOf AllocError × (MutBor Walker × Unit {0}))) (f : F) (depth : ℕ) (stands : Bool) (before after : Collector) : Type 0 where
  pub counted : Collector
  pub rest : left counted.walker ≡ (count stands (left before.walker)).1
  pub state : gathered counted.walker (vec_items counted.declared) ≡ gathered before.walker (vec_items before.declared)
  pub end : counted.walker.at.end ≡ before.walker.at.end
  pub each : Repeats (Declares g f depth) (count stands (left before.walker)).0 counted after
