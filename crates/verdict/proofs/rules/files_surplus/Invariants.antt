use Rattle.std.proofs.Common.{◌≡◌, map, take}
use Rattle.model.specs.Rules.{least}
use Rattle.model.specs.Steps.{file_of}
use Rattle.verdict.specs.Judged.{files_surplus_of}
use Rattle.verdict.proofs.rules.files_surplus.Given as goal

abbrev pub invariant-loop-module : goal.invariant-loop-module
invariant-loop-module l = l.least ≡ least (files_surplus_of l.model (map file_of (take l.module-index l.modules)))
