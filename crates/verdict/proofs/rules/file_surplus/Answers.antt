use Rattle.walk.specs.Total.{own_in}
use Rattle.verdict.proofs.Surplus.{own-surplus}
use Rattle.verdict.proofs.rules.file_surplus.Goals as goal

pub returns : goal.returns
returns c =
    own-surplus (own_in c.args.model.now c.args.file) c.in_ok-declared.declared c.in_ok-uses.uses c.sooner.result c.as_slice.result.now _ c.as_slice-2.result.now _ c.as_slice.ensures.value c.in_ok-collected.ensures.declared c.in_ok-declared.ensures c.as_slice-2.ensures.value c.in_ok-collected.ensures.uses c.in_ok-uses.ensures c.sooner.ensures
