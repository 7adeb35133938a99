use Rattle.std.proofs.Common.{rules, [], ◌∷◌, refl}
use Rattle.walk.specs.Total.{attribute}
use Rattle.walk.specs.Puts.{each_put, attribute_put}
use Rattle.walk.proofs.Going.{made_by}
use Rattle.walk.proofs.Repeating.{walks_listed}
use Rattle.walk.proofs.walker.Walker.walk_attributes.Goals as goal

pub returns : goal.returns
returns c =
    made_by c.each.result c.each.ensures (walks_listed [] ◌∷◌ (λ end. attribute end c.args.depth) attribute_put (each_put attribute_put) (λ x. refl) (λ a l x. refl) _ _ (λ s t x. search rules) c.args.stands c.args.self.now _)
