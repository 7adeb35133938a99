use Rattle.walk.proofs.Reaching.{files-reached}
use Rattle.walk.proofs.reached.files_reached.Goals as goal

pub returns : goal.returns
returns c = files-reached
