use Rattle.chains.proofs.Leading.{bases_lead_lem}
use Rattle.chains.proofs.laws.bases_lead.Goals as goal

pub returns : goal.returns
returns c = bases_lead_lem
