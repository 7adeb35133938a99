use Rattle.naming.proofs.Proposed.{proposals_shaped_lem}
use Rattle.naming.proofs.laws.proposals_shaped.Goals as goal

pub returns : goal.returns
returns c = proposals_shaped_lem
