use Rattle.chains.proofs.Reaching.{modules-reached}
use Rattle.chains.proofs.laws.modules_reached.Goals as goal

pub returns : goal.returns
returns c = modules-reached
