use Rattle.std.proofs.Common.{arith}
use Rattle.model.proofs.Repeating.{called, repeats_more, repeats_fails}
use Rattle.model.proofs.repeat.times.Goals as goal

pub returns-in_err-step : goal.returns-in_err-step
returns-in_err-step g c = c.loop.invariant _ _ (repeats_fails _ c.args.n c.loop.counter _ _ c.from_residual.result _ (omega arith) c.from_residual.ensures.1 (called g.F.Fn c.args.step _ _ _ c.in_err-step.ensures))

pub loop-preserved : goal.loop-preserved
loop-preserved g c = λ r last rest. c.loop.invariant r last (repeats_more _ c.args.n c.loop.counter _ _ last r (omega arith) (called g.F.Fn c.args.step _ _ _ c.in_ok-step.ensures) rest)
