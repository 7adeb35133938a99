use Rattle.imports.proofs.Importing.{lines_import_lem}
use Rattle.imports.proofs.laws.lines_import.Goals as goal

pub returns : goal.returns
returns c = lines_import_lem
