use Rattle.sink.proofs.Lines.{texts_end_lem}
use Rattle.sink.proofs.laws.texts_end.Goals as goal

pub returns : goal.returns
returns c = texts_end_lem
