use Rattle.std.proofs.Common.{◌&&◌, ◌∙◌}
use Rattle.references.proofs.Ties.{same_bytes}
use Rattle.references.proofs.places.refers.Goals as goal

pub returns : goal.returns
returns c =
    c.eq.ensures ∙ (λ i. same_bytes c.args.u.now.reference.from.now c.args.reference.from.now i && same_bytes c.args.u.now.reference.name.now c.args.reference.name.now i)
