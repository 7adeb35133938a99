use Rattle.imports.proofs.Reading.{lines_tell_lem}
use Rattle.imports.proofs.laws.lines_tell.Goals as goal

pub returns : goal.returns
returns c = lines_tell_lem
