use Rattle.binding.proofs.Telling.{names_tell_lem}
use Rattle.binding.proofs.laws.names_tell.Goals as goal

pub returns : goal.returns
returns c = names_tell_lem
