use Rattle.std.proofs.Common.{vec_items}
use Rattle.binding.specs.Sound.{bindings_in}
use Rattle.binding.proofs.Indexes.{Seeks}
use Rattle.binding.proofs.binder.Binder.free_alias.Given as goal

abbrev pub invariant-loop-n : goal.invariant-loop-n
invariant-loop-n l = Seeks (bindings_in l.self) l.root l.count l.n (vec_items l.name)
