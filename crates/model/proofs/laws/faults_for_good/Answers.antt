use Rattle.std.proofs.Common.{◌≡◌, ℕ, arith}
use Rattle.model.proofs.Stable.{model_final}
use Rattle.model.proofs.laws.faults_for_good.Goals as goal

-- the fault stays with more bytes behind, and no fault is a tree
pub returns : goal.returns
returns c bs p e l more m r = let f = model_final bs p e l more in let z : ◌≡◌ {A = ℕ} 0 1 = cc in absurd (omega arith)
