use Rattle.std.proofs.Common.{◌≡◌, ◌++◌, ◌∷◌, [], map, take, ltb, btree_set_len, Some, ap, sym, refl, subst, inl, ◌<◌, lt-ltb, ◌∙◌, arith}
use Rattle.model.specs.Rules.{least, soonest}
use Rattle.model.specs.Limits.{over, distinct_allowed}
use Rattle.std.specs.Ordering.{eq_by_cmp}
use Rattle.limits.specs.Entries.{keyed}
use Rattle.limits.proofs.Walks.{Surplus, with_place, kept_none, surplus_more, surplus_full, noted_over, noted_within, entries_more, entries_all, entry, with_key, soonest_place}
use Rattle.limits.proofs.places.least_surplus.Goals as goal
use Rattle.limits.proofs.places.least_surplus.Goals.{then-too_many, else-too_many}

pub loop-e-init : goal.loop-e-init
loop-e-init g c = record { known = inl (kept_none g.met.E.Key.Ord.total c.new-seen.result c.new-seen.ensures.empty c.new-seen.ensures.ordered); least_is = refl }

pub loop-e-preserved-then-is_full : goal.loop-e-preserved-then-is_full
loop-e-preserved-then-is_full g c =
    let R = g.E.Key.Ord.cmp in
    let f = keyed g.E.Entry.place_of g.E.Entry.key_of in
    let came = map f (take c.loop-e.e-index c.args.entries.now) in
    let place = g.E.Entry.place_of c.e-item.result in
    let q = c.noted-surplus.result in
    entries_more f (λ xs. Surplus R distinct_allowed xs c.loop-e.seen q) c.args.entries.now c.loop-e.e-index c.e-item.result c.loop-e-test.true c.e-item.is
    (surplus_full g.met.E.Key.Ord.total distinct_allowed (f c.e-item.result) came c.loop-e.seen c.loop-e.surplus q (omega (arith, c.if-is_full.true, c.len-is_full.ensures.len)) c.len-is_full.ensures.ordered
    (c.noted-surplus.ensures ∙ ap (λ p. soonest c.loop-e.surplus (Some p)) c.place.ensures ∙ soonest_place c.loop-e.surplus place) c.loop-e.invariant)

pub loop-e-preserved : goal.loop-e-preserved
loop-e-preserved g c =
    let R = g.E.Key.Ord.cmp in
    let f = keyed g.E.Entry.place_of g.E.Entry.key_of in
    let came = map f (take c.loop-e.e-index c.args.entries.now) in
    let place = g.E.Entry.place_of c.e-item.result in
    let n = c.insert.new.self in
    let q = c.if-too_many.surplus in
    let noted : q ≡ with_place (ltb distinct_allowed (btree_set_len n)) place c.loop-e.surplus = elim c.if-too_many.branch [
      | then-too_many w ↦ noted_over distinct_allowed (btree_set_len n) place c.loop-e.surplus q (omega (arith, w.if-too_many.true, c.len-too_many.ensures.len)) (w.surplus-is ∙ (w.noted-surplus-then-too_many.ensures ∙ ap (λ p. soonest c.loop-e.surplus (Some p)) w.place-then-too_many.ensures) ∙ soonest_place c.loop-e.surplus place)
      | else-too_many w ↦ noted_within distinct_allowed (btree_set_len n) place c.loop-e.surplus q (omega (arith, w.if-too_many.false, c.len-too_many.ensures.len)) w.surplus-is
    ] in
    entries_more f (λ xs. Surplus R distinct_allowed xs n q) c.args.entries.now c.loop-e.e-index c.e-item.result c.loop-e-test.true c.e-item.is
    (with_key (λ x. Surplus R distinct_allowed (came ++ x ∷ []) n q) place c.key.result (g.E.Entry.key_of c.e-item.result) c.key.ensures
    (surplus_more g.met.E.Key.Ord.total distinct_allowed (entry place c.key.result) came c.loop-e.seen n c.in_ok-insert.field-0 c.loop-e.surplus q
    (omega (arith, c.if-is_full.false, c.len-is_full.ensures.len)) c.in_ok-insert.ensures.added c.in_ok-insert.ensures.updates c.in_ok-insert.ensures.len c.in_ok-insert.ensures.ordered noted c.loop-e.invariant))

pub returns : goal.returns
returns g c =
    entries_all (keyed g.E.Entry.place_of g.E.Entry.key_of) (λ xs. c.loop-e.surplus ≡ least (over (eq_by_cmp g.E.Key.Ord.cmp) distinct_allowed xs)) c.args.entries.now c.loop-e.e-index c.loop-e-test.false c.loop-e.invariant.least_is
