use Rattle.std.proofs.Common.{rules}
use Rattle.model.specs.Audit.{audit_argument}
use Rattle.model.proofs.reader.Reader.arguments.Goals as goal

pub returns : goal.returns
returns c = c.each.ensures (λ n. audit_argument n c.args.depth) (λ x y r p. search rules)
