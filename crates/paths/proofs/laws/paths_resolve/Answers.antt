use Rattle.paths.proofs.Leads.{paths_resolve_lem}
use Rattle.paths.proofs.laws.paths_resolve.Goals as goal

pub returns : goal.returns
returns c = paths_resolve_lem
