use Rattle.std.proofs.Common.{◌+◌, ◌*◌}
use Rattle.model.specs.Steps.{gathered}
use Rattle.model.specs.Audit.{audit_module}
use Rattle.model.proofs.Going.{Sofar}
use Rattle.model.proofs.modules.Lister.+module_module_record_modules.Given as goal

abbrev pub decreases-module : goal.decreases-module
decreases-module l = 3 * l.depth

abbrev pub decreases-module_record : goal.decreases-module_record
decreases-module_record l = 3 * l.depth + 2

abbrev pub decreases-modules : goal.decreases-modules
decreases-modules l = 3 * l.depth + 1

abbrev pub invariant-modules-loop : goal.invariant-modules-loop
invariant-modules-loop l =
    Sofar (audit_module l.initial.self.reader.at.end l.depth l.holder) l.n l.counter l.initial.self.reader.at l.self.reader.at (gathered l.initial.self.reader.found l.initial.self.list) (gathered l.self.reader.found l.self.list)
