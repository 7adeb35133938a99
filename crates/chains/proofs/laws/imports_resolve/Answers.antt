use Rattle.chains.proofs.Leading.{imports-resolve}
use Rattle.chains.proofs.laws.imports_resolve.Goals as goal

pub returns : goal.returns
returns c = imports-resolve
