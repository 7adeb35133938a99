use Rattle.std.proofs.Common.{refl, rules, arith}
use Rattle.std.proofs.lemmas.Result.{IfOk-weaker}
use Rattle.model.specs.Tree.{no_class, add_class}
use Rattle.walk.specs.Total.{one_class}
use Rattle.walk.specs.Puts.{class_put, classes_put}
use Rattle.walk.proofs.Going.{made_by, tells_empty, tells-inside}
use Rattle.walk.proofs.Repeating.{walks_listed}
use Rattle.walk.proofs.walker.+classes.Goals as goal

pub Walker::walk_class-returns-then-depth-eq0 : goal.Walker::walk_class-returns-then-depth-eq0
Walker::walk_class-returns-then-depth-eq0 t c =
    tells_empty c.args.self.now.at.end c.args.depth c.place-place.result c.args.self.now _ c.if-depth-eq0.true c.place-place.ensures refl

pub Walker::walk_class-returns : goal.Walker::walk_class-returns
Walker::walk_class-returns t c =
    IfOk-weaker c.walk_class_record.result _ _ (λ v g. tells-inside c.args.self.now.at.end c.args.depth c.args.self.now _ v (λ z. omega arith) g) c.walk_class_record.ensures

pub Walker::walk_classes-returns : goal.Walker::walk_classes-returns
Walker::walk_classes-returns t c =
    made_by c.each.result c.each.ensures (walks_listed no_class add_class (λ end. one_class end c.args.depth) class_put classes_put (λ x. refl) (λ a l x. refl) _ _ (λ s t x. search rules) c.args.stands c.args.self.now _)
