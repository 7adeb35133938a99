use Rattle.std.proofs.Common.{◌-◌}
use Rattle.model.specs.Repeats.{Calls, Repeats}
use Rattle.model.proofs.repeat.times.Given as goal

-- whatever the calls that are left give, all of them give
abbrev pub invariant-loop : goal.invariant-loop
invariant-loop g l =
    (r : _) (last : _) → Repeats (Calls g.F.Fn l.step) (l.n - l.counter) l.state r last → Repeats (Calls g.F.Fn l.step) l.n l.initial.state r last
