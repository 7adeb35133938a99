use Rattle.rules.proofs.Computed.{computed}
use Rattle.rules.proofs.worked_cases.Goals as goal

pub returns : goal.returns
returns c = computed
