use Rattle.std.proofs.Common.{take, ap, ◌∙◌}
use Rattle.walk.proofs.Cuts.{take-cut, drop-cut}
use Rattle.binding.proofs.name.part_of.Goals as goal

pub returns : goal.returns
returns c =
    take-cut c.args.part.len c.min-len.result _ c.min-len.ensures
    ∙ ap (take c.args.part.len) (drop-cut c.args.part.start c.min-start.result c.args.pool.now c.min-start.ensures)
