use Rattle.std.proofs.Common.{rules}
use Rattle.model.specs.Audit.{audit_expr}
use Rattle.model.proofs.reader.Reader.expressions.Goals as goal

pub returns : goal.returns
returns c = c.each.ensures (λ n. audit_expr n c.args.depth) (λ x y r p. search rules)
