use Rattle.std.proofs.Common.{map, take}
use Rattle.limits.specs.Entries.{keyed}
use Rattle.limits.proofs.Walks.{Repeated}
use Rattle.limits.proofs.places.least_repeat.Given as goal

abbrev pub invariant-loop-e : goal.invariant-loop-e
invariant-loop-e g l = Repeated g.E.Key.Ord.cmp (map (keyed g.E.Entry.place_of g.E.Entry.key_of) (take l.e-index l.entries)) l.seen l.repeat
