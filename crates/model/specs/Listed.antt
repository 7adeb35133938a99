-- What the reader's list of modules is after a step.
use Rattle.std.specs.Prelude.{◌≡◌, ℕ, [], ◌∷◌, ◌++◌, map, vec_items, Option}
use Rattle.model.specs.declared.files.Listed.{Listed}
use Rattle.model.specs.declared.files.Listing.{Listing}
use Rattle.model.specs.Tree.{Text}
use Rattle.model.specs.Files.{file, held}
use Rattle.model.specs.Steps.{file_of, held_of}

abbrev pub with_own : ℕ → Listed → Listed
with_own own x = record { file = file x.file.place x.file.holder own; name = x.name }

pub record Opened (p : ℕ) (h : Option ℕ) (s : Text) (before after : Listing) : Type 0 where
  pub files : map file_of (vec_items after.modules) ≡ map file_of (vec_items before.modules) ++ file p h 0 ∷ []
  pub siblings : map held_of (vec_items after.modules) ≡ map held_of (vec_items before.modules) ++ held p h s ∷ []
