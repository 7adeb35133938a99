use Rattle.std.proofs.Common.{refl}
use Rattle.walk.proofs.Repeating.{each_walked}
use Rattle.walk.proofs.walker.Walker.each.Goals as goal

pub returns : goal.returns
returns g c =
    each_walked g.F.Fn c.args.item c.args.stands c.count-n.result c.args.self.now _ _ c.times.result c.count-n.ensures.is c.count-n.ensures.rest c.count-n.ensures.end refl c.times.ensures
