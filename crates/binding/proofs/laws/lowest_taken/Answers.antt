use Rattle.binding.proofs.Seeking.{takes_lowest}
use Rattle.binding.proofs.laws.lowest_taken.Goals as goal

pub returns : goal.returns
returns c = takes_lowest
