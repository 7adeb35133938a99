use Rattle.std.proofs.Common.{rules}
use Rattle.model.specs.Audit.{audit_attribute}
use Rattle.model.proofs.reader.Reader.attributes.Goals as goal

pub returns : goal.returns
returns c = c.each.ensures (λ n. audit_attribute n c.args.depth) (λ x y r p. search rules)
