-- What resolving a file of a model answers.
use Rattle.std.specs.Prelude.{◌≡◌, ℕ, List, Ok, Err, Result}
use Rattle.model.specs.declared.files.File.{File}
use Rattle.model.specs.Tree.{Text}
use Rattle.model.specs.Uses.{Use}
use Rattle.model.specs.declared.uses.Reference.{Reference as ReferenceOf}
use Rattle.references.specs.References.{pair_of, references}
use Rattle.binding.specs.declared.names.Names.{Names}
use Rattle.binding.specs.Named.{bindings_held, name_held, name_among}
use Rattle.walk.specs.Total.{own_in}
use Rattle.walk.specs.Collects.{uses_in, declared_in}
use Rattle.resolver.specs.declared.fault.Fault.{Fault}
use Rattle.resolver.specs.Resolved.{Resolved, resolved, resolution}
use Rattle.resolver.specs.Answers.{told, Tells}

-- a file of the model bs, whose own module is called so
abbrev pub resolution_in : List ℕ → File → Text → Resolved
resolution_in bs f own = resolution own (declared_in (own_in bs f)) (uses_in (own_in bs f))

pub record Named (x : Resolved) (us : List Use) (n : Names) : Type 0 where
  pub bindings : x ≡ resolved (bindings_held n)
  pub renames : (r : ReferenceOf) → name_held n r ≡ name_among (references us) (bindings_held n) (pair_of r)

abbrev pub Resolves : List ℕ → File → Text → Result Names Fault → Type 0
Resolves bs f own (Ok n) = Named (resolution_in bs f own) (uses_in (own_in bs f)) n
Resolves bs f own (Err e) = Tells (resolution_in bs f own) (told e)
