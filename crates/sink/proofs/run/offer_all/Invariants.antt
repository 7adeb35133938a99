use Rattle.std.proofs.Common.{map, take}
use Rattle.sink.specs.Sinks.{Took}
use Rattle.sink.proofs.run.offer_all.Given as goal

abbrev pub invariant-loop-taken : goal.invariant-loop-taken
invariant-loop-taken g l = Took g.S.Sink.taken g.S.Sink.takes l.initial.sink (take l.taken (map (λ x. x.now) l.lines)) l.sink
