use Rattle.std.proofs.Common.{take}
use Rattle.binding.specs.Sound.{Declares}
use Rattle.binding.proofs.Declaring.{names_in}
use Rattle.binding.proofs.bind.declare.Given as goal

abbrev pub invariant-loop-d : goal.invariant-loop-d
invariant-loop-d l = Declares l.own (names_in (take l.d-index l.declared)) l.binder
