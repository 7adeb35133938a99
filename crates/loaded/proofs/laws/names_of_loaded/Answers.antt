use Rattle.loaded.proofs.Telling.{names_of_loaded_lem}
use Rattle.loaded.proofs.laws.names_of_loaded.Goals as goal

pub returns : goal.returns
returns c = names_of_loaded_lem
