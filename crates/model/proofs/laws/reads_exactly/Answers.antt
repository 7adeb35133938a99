use Rattle.model.proofs.Models.{reads_exactly_lem}
use Rattle.model.proofs.laws.reads_exactly.Goals as goal

pub returns : goal.returns
returns c = reads_exactly_lem
