use Rattle.paths.proofs.Leads.{texts_resolve_lem}
use Rattle.paths.proofs.laws.texts_resolve.Goals as goal

pub returns : goal.returns
returns c = texts_resolve_lem
