use Rattle.std.proofs.Common.{rules}
use Rattle.model.specs.Audit.{audit_function}
use Rattle.model.proofs.reader.Reader.functions.Goals as goal

pub returns : goal.returns
returns c = c.each.ensures (λ n. audit_function n c.args.depth) (λ x y r p. search rules)
