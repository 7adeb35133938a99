use Rattle.std.proofs.Common.{map}
use Rattle.model.specs.Steps.{file_of}
use Rattle.verdict.proofs.Surplus.{surplus-all}
use Rattle.verdict.proofs.rules.surplus.Goals as goal

pub returns : goal.returns
returns c =
    surplus-all c.args.model.now (map file_of c.args.modules.now) c.surplus_module-last.result c.in_ok-own.own c.sooner.result c.surplus_module-last.ensures c.in_ok-own.ensures c.sooner.ensures
