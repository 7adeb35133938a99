use Rattle.std.proofs.Common.{refl}
use Rattle.walk.proofs.Skipped.{value_skipped}
use Rattle.walk.proofs.walker.Walker.walk_value.Goals as goal

pub returns-then-stands : goal.returns-then-stands
returns-then-stands c =
    record { rest = value_skipped c.args.self.now.at.end c.args.depth c.args.stands c.args.self.now.at.rest.now _ c.if-stands.true c.skip_expr.ensures.rest; uses = refl; end = c.skip_expr.ensures.end }
