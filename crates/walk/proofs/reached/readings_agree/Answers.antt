use Rattle.walk.proofs.Agreeing.{agreement}
use Rattle.walk.proofs.reached.readings_agree.Goals as goal

pub returns : goal.returns
returns c = agreement
