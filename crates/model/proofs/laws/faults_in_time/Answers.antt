use Rattle.model.proofs.Timely.{faults_in_time_lem}
use Rattle.model.proofs.laws.faults_in_time.Goals as goal

pub returns : goal.returns
returns c = faults_in_time_lem
