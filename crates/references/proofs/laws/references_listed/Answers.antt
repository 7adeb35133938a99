use Rattle.references.proofs.Listed.{lists_references, lists_only}
use Rattle.references.proofs.laws.references_listed.Goals as goal

pub returns : goal.returns
returns c = λ us. (lists_references us, lists_only us)
