-- What a step of the walk leaves.
use Rattle.std.specs.Prelude.{◌≡◌, ℕ, List, [], ◌∷◌, ◌++◌, map, vec_items, Bool, Ok, Result}
use Rattle.std.specs.Borrow.{MutBor}
use Rattle.std.specs.Fn.{Shared}
use Rattle.std.specs.declared.alloc.AllocError.{AllocError}
use Rattle.model.specs.Tree.{Text}
use Rattle.model.specs.Uses.{Use, use', Declared}
use Rattle.model.specs.Steps.{use_of, declared_of}
use Rattle.model.specs.declared.uses.Declared.{Declared as DeclaredOf}
use Rattle.model.specs.Repeats.{Calls, Repeats}
use Rattle.walk.specs.Total.{count}
use Rattle.walk.specs.Puts.{Gathered}
use Rattle.walk.specs.declared.walker.Walker.{Walker}

abbrev pub left : Walker → List ℕ
left w = w.at.rest.now

abbrev pub uses_of : Walker → List Use
uses_of w = map use_of (vec_items w.uses)

-- the walker read what `one` reads, and put its references to those it had
pub record Walks {A : Type 0} (put : A → List Use → List Use) (one : List ℕ → A × List ℕ) (before after : Walker) : Type 0 where
  pub rest : left after ≡ (one (left before)).1
  pub uses : uses_of after ≡ put (one (left before)).0 (uses_of before)
  pub end : after.at.end ≡ before.at.end

-- the same of a record, of which the walker hands back what it declares
pub record Tells {A : Type 0} (put : A → List Use → List Use) (tell : A → Declared) (one : List ℕ → A × List ℕ) (before after : Walker) (d : DeclaredOf) : Type 0 where
  pub rest : left after ≡ (one (left before)).1
  pub uses : uses_of after ≡ put (one (left before)).0 (uses_of before)
  pub end : after.at.end ≡ before.at.end
  pub declared : declared_of d ≡ tell (one (left before)).0

-- one reference more, and no byte less
pub record Noted (p : ℕ) (m s : Text) (before after : Walker) : Type 0 where
  pub rest : left after ≡ left before
  pub uses : uses_of after ≡ uses_of before ++ use' p m s ∷ []
  pub end : after.at.end ≡ before.at.end

-- f may walk each item of a list field, behind its count
pub record WalksEach {F : Type 0} (g : Shared F (MutBor Walker × Unit {0}) (Result (Unit {0}) AllocError × (MutBor Walker × Unit {0}))) (f : F) (stands : Bool) (before after : Walker) : Type 0 where
  pub counted : Walker
  pub rest : left counted ≡ (count stands (left before)).1
  pub uses : uses_of counted ≡ uses_of before
  pub end : counted.at.end ≡ before.at.end
  pub each : Repeats (Calls g f) (count stands (left before)).0 counted (Ok tt) after

abbrev pub gathered : Walker → List DeclaredOf → Gathered
gathered w ds = (uses_of w, map declared_of ds)

-- the walker read a field of a module, put its references to those it had, and what it declares to what was declared
pub record Owns {A : Type 0} (put : A → Gathered → Gathered) (one : List ℕ → A × List ℕ) (before after : Walker) (ds es : List DeclaredOf) : Type 0 where
  pub rest : left after ≡ (one (left before)).1
  pub state : gathered after es ≡ put (one (left before)).0 (gathered before ds)
  pub end : after.at.end ≡ before.at.end
