use Rattle.std.proofs.Common.{arith}
use Rattle.verdict.proofs.Surplus.{files-more, files-all}
use Rattle.verdict.proofs.rules.files_surplus.Goals as goal

pub loop-module-preserved : goal.loop-module-preserved
loop-module-preserved c =
    files-more c.args.model.now c.args.modules.now c.loop-module.module-index _ c.loop-module.least c.in_ok-own.own c.sooner-least.result (omega arith) c.loop-module.invariant c.in_ok-own.ensures c.sooner-least.ensures

pub returns : goal.returns
returns c =
    files-all c.args.model.now c.args.modules.now c.loop-module.module-index c.loop-module.least (omega arith) c.loop-module.invariant
