use Rattle.naming.proofs.Proposed.{proposals_differ_lem}
use Rattle.naming.proofs.laws.proposals_differ.Goals as goal

pub returns : goal.returns
returns c = proposals_differ_lem
