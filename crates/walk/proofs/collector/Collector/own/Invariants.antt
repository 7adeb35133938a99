use Rattle.std.proofs.Common.{◌-◌}
use Rattle.walk.specs.Repeats.{Repeats}
use Rattle.walk.specs.Collects.{Declares}
use Rattle.walk.proofs.collector.Collector.own.Given as goal

-- what the records that are left lead to, all of them lead to
abbrev pub invariant-loop : goal.invariant-loop
invariant-loop g l =
    (last : _) → Repeats (Declares g.F.Fn l.item 64) (l.n - l.counter) l.self last → Repeats (Declares g.F.Fn l.item 64) l.n l.initial.self last
