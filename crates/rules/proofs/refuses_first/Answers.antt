use Rattle.rules.proofs.Refusing.{refuses_first_lem}
use Rattle.rules.proofs.refuses_first.Goals as goal

pub returns : goal.returns
returns c = refuses_first_lem
