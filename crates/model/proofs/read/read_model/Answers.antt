use Rattle.model.proofs.Answered.{reads_from}
use Rattle.model.proofs.read.read_model.Goals as goal

pub returns : goal.returns
returns c = reads_from c.args.model.now c.pass.result c.pass.ensures
