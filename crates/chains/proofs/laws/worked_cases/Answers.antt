use Rattle.std.proofs.Common.{refl}
use Rattle.paths.specs.Paths.{relative_text}
use Rattle.chains.proofs.laws.worked_cases.Goals as goal

pub returns : goal.returns
unfolding relative_text
returns c = refl
