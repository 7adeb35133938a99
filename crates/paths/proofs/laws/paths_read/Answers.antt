use Rattle.paths.proofs.Leads.{paths_read_lem}
use Rattle.paths.proofs.laws.paths_read.Goals as goal

pub returns : goal.returns
returns c = paths_read_lem
