-- The number and the place of each fault that a call of the session answers. Want of memory has neither.
use Rattle.std.specs.Prelude.{ℕ, Some, None, Option}
use Rattle.session.specs.declared.fault.Fault.{Fault}
use Rattle.session.specs.declared.fault.Fault.TheVariants.{Reader, Resolver, NoModel, NoFile, Room, Memory}
use Rattle.verdict.specs.Answers.{told as told_by_reader}
use Rattle.resolver.specs.Answers.{told as told_by_resolver}

abbrev pub told : Fault → Option (ℕ × ℕ)
told (Reader f) = told_by_reader f
told (Resolver f) = told_by_resolver f
told NoModel = Some (8, 0)
told NoFile = Some (9, 0)
told (Room n) = Some (15, n)
told Memory = None
