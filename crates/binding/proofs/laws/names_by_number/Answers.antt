use Rattle.binding.specs.Binding.{by_number}
use Rattle.binding.proofs.Seeking.{takes_lowest}
use Rattle.binding.proofs.Telling.{proposes-by_number}
use Rattle.binding.proofs.laws.names_by_number.Goals as goal

pub returns : goal.returns
returns c = record { proposes = proposes-by_number; lowest = takes_lowest by_number proposes-by_number }
