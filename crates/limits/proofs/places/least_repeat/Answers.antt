use Rattle.std.proofs.Common.{◌≡◌, not, ◌++◌, ◌∷◌, [], map, take, Some, ap, sym, refl, ◌∙◌}
use Rattle.model.specs.Rules.{least, soonest}
use Rattle.model.specs.Limits.{repeats}
use Rattle.std.specs.Ordering.{eq_by_cmp}
use Rattle.limits.specs.Entries.{keyed}
use Rattle.limits.proofs.Walks.{Repeated, with_place, kept_none, repeated_more, entries_more, entries_all, entry, with_key, soonest_place}
use Rattle.limits.proofs.places.least_repeat.Goals as goal
use Rattle.limits.proofs.places.least_repeat.Goals.{then-not-branch, else-not-branch}

pub loop-e-init : goal.loop-e-init
loop-e-init g c = record { kept = kept_none g.met.E.Key.Ord.total c.new-seen.result c.new-seen.ensures.empty c.new-seen.ensures.ordered; least_is = refl }

pub loop-e-preserved : goal.loop-e-preserved
loop-e-preserved g c =
    let R = g.E.Key.Ord.cmp in
    let f = keyed g.E.Entry.place_of g.E.Entry.key_of in
    let came = map f (take c.loop-e.e-index c.args.entries.now) in
    let place = g.E.Entry.place_of c.e-item.result in
    let noted : c.if-not-branch.repeat ≡ with_place (not c.in_ok-insert.field-0) place c.loop-e.repeat = elim c.if-not-branch.branch [
      | then-not-branch w ↦ w.repeat-is ∙ (w.noted-repeat.ensures ∙ ap (λ p. soonest c.loop-e.repeat (Some p)) w.place.ensures) ∙ soonest_place c.loop-e.repeat place ∙ sym (ap (λ b. with_place (not b) place c.loop-e.repeat) w.if-not-branch.true)
      | else-not-branch w ↦ w.repeat-is ∙ sym (ap (λ b. with_place (not b) place c.loop-e.repeat) w.if-not-branch.false)
    ] in
    entries_more f (λ xs. Repeated R xs c.insert.new.self c.if-not-branch.repeat) c.args.entries.now c.loop-e.e-index c.e-item.result c.loop-e-test.true c.e-item.is
    (with_key (λ x. Repeated R (came ++ x ∷ []) c.insert.new.self c.if-not-branch.repeat) place c.key.result (g.E.Entry.key_of c.e-item.result) c.key.ensures
    (repeated_more g.met.E.Key.Ord.total (entry place c.key.result) came c.loop-e.seen c.insert.new.self c.in_ok-insert.field-0 c.loop-e.repeat c.if-not-branch.repeat
    c.in_ok-insert.ensures.added c.in_ok-insert.ensures.updates c.in_ok-insert.ensures.len c.in_ok-insert.ensures.ordered noted c.loop-e.invariant))

pub returns : goal.returns
returns g c =
    entries_all (keyed g.E.Entry.place_of g.E.Entry.key_of) (λ xs. c.loop-e.repeat ≡ least (repeats (eq_by_cmp g.E.Key.Ord.cmp) xs)) c.args.entries.now c.loop-e.e-index c.loop-e-test.false c.loop-e.invariant.least_is
