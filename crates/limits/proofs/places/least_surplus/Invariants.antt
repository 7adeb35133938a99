use Rattle.std.proofs.Common.{map, take}
use Rattle.model.specs.Limits.{distinct_allowed}
use Rattle.limits.specs.Entries.{keyed}
use Rattle.limits.proofs.Walks.{Surplus}
use Rattle.limits.proofs.places.least_surplus.Given as goal

abbrev pub invariant-loop-e : goal.invariant-loop-e
invariant-loop-e g l = Surplus g.E.Key.Ord.cmp distinct_allowed (map (keyed g.E.Entry.place_of g.E.Entry.key_of) (take l.e-index l.entries)) l.seen l.surplus
