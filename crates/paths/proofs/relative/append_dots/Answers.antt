use Rattle.std.proofs.Common.{eqb, sym, rules, tests}
use Rattle.std.proofs.lemmas.Iterator.{YieldsList-from_slice}
use Rattle.std.proofs.lemmas.Iterator.Adapters.{items_from_extend}
use Rattle.std.proofs.lemmas.Iterator.Consumers.{YieldsList-from_copied, YieldsList-from_filter}
use Rattle.paths.proofs.Steps.{dots_in-filter}
use Rattle.paths.proofs.relative.append_dots.Goals as goal

pub returns : goal.returns
returns c =
    let h = items_from_extend c.extend.result c.extend.ensures.ran
    (YieldsList-from_filter _ (λ b. eqb b 46) (YieldsList-from_copied (YieldsList-from_slice c.args.name.now cc)) c.filter.ensures.closure (λ x b q k. search (rules, tests))) in
    rw (sym (dots_in-filter c.args.name.now)) (search rules)
