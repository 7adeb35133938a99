use Rattle.std.proofs.Common.{rules, tests, arith}
use Rattle.std.proofs.lemmas.Iterator.{YieldsList-from_slice, YieldsList-from_map}
use Rattle.std.proofs.lemmas.Iterator.Consumers.{YieldsList-at, YieldsList-from_filter, min_from_yields_List}
use Rattle.model.specs.Limits.{same_reference}
use Rattle.model.specs.Steps.{use_of}
use Rattle.references.specs.References.{pair_of, reference_of}
use Rattle.references.proofs.Firsts.{least_kept}
use Rattle.references.proofs.places.first_use.Goals as goal

pub returns : goal.returns
returns c =
    let soonest = least_kept (λ u. same_reference (reference_of u) (pair_of c.args.reference)) c.args.uses.now c.min.result
    (min_from_yields_List _ _ c.min.ensures.ran (YieldsList-from_map _ (λ u. u.place) (YieldsList-at c.map-places.ensures.source (YieldsList-from_filter _ (λ u. same_reference (reference_of (use_of u)) (pair_of c.args.reference)) (YieldsList-at c.filter.ensures.source (YieldsList-from_slice c.args.uses.now cc)) c.filter.ensures.closure (λ x b q k. search (rules, tests)))) c.map-places.ensures.closure (λ x r q k. search (rules, tests)))) in
    grind (arith, soonest)
