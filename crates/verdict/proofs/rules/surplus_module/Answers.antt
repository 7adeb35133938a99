use Rattle.std.proofs.Common.{rules, tests}
use Rattle.std.proofs.lemmas.Iterator.{YieldsList-from_slice, YieldsList-from_map}
use Rattle.std.proofs.lemmas.Iterator.Adapters.{YieldsList-from_skip}
use Rattle.std.proofs.lemmas.Iterator.Consumers.{YieldsList-at, min_from_yields_List}
use Rattle.model.specs.Verdict.{modules_allowed}
use Rattle.verdict.proofs.Surplus.{places_past}
use Rattle.verdict.proofs.rules.surplus_module.Goals as goal

pub returns : goal.returns
returns c =
    places_past c.args.modules.now c.min.result
    (min_from_yields_List _ _ c.min.ensures.ran (YieldsList-from_map _ (λ m. m.file.place) (YieldsList-at c.map.ensures.source (YieldsList-from_skip modules_allowed (YieldsList-at c.skip.ensures.source (YieldsList-from_slice c.args.modules.now cc)) c.skip.ensures.count)) c.map.ensures.closure (λ x r q k. search (rules, tests))))
