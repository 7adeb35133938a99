-- What a step of the cursor leaves. That the model's length stays is said here for all of them.
use Rattle.std.specs.Prelude.{◌≡◌, ℕ, List}
use Rattle.walk.specs.declared.cursor.Cursor.{Cursor}

-- it answered what `one` reads, seen through f, and went on behind that
pub record Yields {T A : Type 0} (f : T → A) (one : List ℕ → A × List ℕ) (before after : Cursor) (r : T) : Type 0 where
  pub is : f r ≡ (one before.rest.now).0
  pub rest : after.rest.now ≡ (one before.rest.now).1
  pub end : after.end ≡ before.end

-- it answered nothing, and `one` is what it left
pub record Passes (one : List ℕ → List ℕ) (before after : Cursor) : Type 0 where
  pub rest : after.rest.now ≡ one before.rest.now
  pub end : after.end ≡ before.end
