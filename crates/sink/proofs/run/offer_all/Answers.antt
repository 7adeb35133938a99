use Rattle.std.proofs.Common.{Err, arith, map, subst}
use Rattle.sink.specs.Sinks.{OfferedAll}
use Rattle.sink.proofs.Runs.{took_none, took_next, stopped_next, took_all}
use Rattle.sink.proofs.run.offer_all.Goals as goal

pub loop-taken-init : goal.loop-taken-init
loop-taken-init g c = took_none g.S.Sink.taken g.S.Sink.takes g.S.Sink.lawful c.args.sink.now

pub loop-taken-preserved : goal.loop-taken-preserved
loop-taken-preserved g c =
    took_next g.S.Sink.taken g.S.Sink.takes c.args.sink.now c.args.lines.now c.loop-taken.taken c.loop-taken-test.true _ c.loop-taken.sink c.offer.new.self c.loop-taken.invariant c.in_default.ensures

pub returns-in-Err : goal.returns-in-Err
returns-in-Err g c =
    subst (λ k. OfferedAll g.S.Sink.taken g.S.Sink.takes c.args.sink.now (map (λ x. x.now) c.args.lines.now) (Err (record { taken = k })) c.offer.new.self) (omega (arith, c.loop-taken-test.true))
    (stopped_next g.S.Sink.taken g.S.Sink.takes c.args.sink.now c.args.lines.now c.loop-taken.taken c.loop-taken-test.true _ c.loop-taken.sink c.offer.new.self c.loop-taken.invariant c.in-Err.ensures)

pub returns : goal.returns
returns g c =
    took_all g.S.Sink.taken g.S.Sink.takes c.args.sink.now c.loop-taken.sink c.args.lines.now c.loop-taken.taken c.loop-taken-test.false c.loop-taken.invariant
