use Rattle.std.proofs.Common.{rules, refl}
use Rattle.model.specs.Tree.{end as no_expr, item as add_expr}
use Rattle.walk.specs.Total.{expr}
use Rattle.walk.specs.Puts.{expr_put, exprs_put}
use Rattle.walk.proofs.Going.{made_by}
use Rattle.walk.proofs.Repeating.{walks_listed}
use Rattle.walk.proofs.walker.Walker.walk_exprs.Goals as goal

pub returns : goal.returns
returns c =
    made_by c.each.result c.each.ensures (walks_listed no_expr add_expr (λ end. expr end c.args.depth) expr_put exprs_put (λ x. refl) (λ a l x. refl) _ _ (λ s t x. search rules) c.args.stands c.args.self.now _)
