use Rattle.std.proofs.Common.{vec_items}
use Rattle.binding.specs.Held.{bindings_of}
use Rattle.imports.proofs.Going.{Sofar}
use Rattle.imports.proofs.lines.import_lines.Given as goal

abbrev pub invariant-loop-e : goal.invariant-loop-e
invariant-loop-e l = Sofar l.own l.base (bindings_of l.bindings.pool.now l.bindings.entries.now) l.from (vec_items l.line) l.e-index l.lines
