use Rattle.rules.proofs.Loading.{loads_exactly_lem}
use Rattle.rules.proofs.loads_exactly.Goals as goal

pub returns : goal.returns
returns c = loads_exactly_lem
