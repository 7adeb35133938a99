-- The answer of the one pass in terms of the tree.
use Rattle.std.proofs.Common.{◌≡◌, ℕ, List, Ok, Err, Result, sym, ◌∙◌, arith}
use Rattle.model.specs.declared.fault.Fault.{Fault}
use Rattle.model.specs.declared.fault.Fault.TheVariants.{Broken, Memory}
use Rattle.model.specs.declared.read.Audit.{Audit}
use Rattle.model.specs.Tree.{Module}
use Rattle.model.specs.Read.{Out, read, fault, model}
use Rattle.model.specs.Audit.{map_out, summary}
use Rattle.model.specs.Steps.{Audits, Reads}
use Rattle.model.proofs.Soonest.{audits_tree}

fault_under : (o : Out Module) (p : ℕ) → map_out summary o ≡ fault p → o ≡ fault p
fault_under (read m r) p e = let z : ◌≡◌ {A = ℕ} 0 1 = cc in absurd (omega arith)
fault_under (fault q) p e = let z : q ≡ p = cc in rw z

pub reads_from : (bs : List ℕ) (r : Result Audit Fault) → Audits bs r → Reads bs r
reads_from bs (Ok a) h = sym (audits_tree bs) ∙ h
reads_from bs (Err (Broken e)) h = fault_under (model bs) e.place (sym (audits_tree bs) ∙ h)
reads_from bs (Err Memory) h = tt
