use Rattle.std.proofs.Common.{map, Ok, rules, tests, arith}
use Rattle.std.proofs.lemmas.Iterator.{YieldsList-from_slice, YieldsList-from_map}
use Rattle.std.proofs.lemmas.Iterator.Adapters.{items_from_extend}
use Rattle.std.proofs.lemmas.Iterator.Consumers.{YieldsList-at, YieldsList-from_filter, min_from_yields_List}
use Rattle.model.specs.Steps.{declared_of, use_of}
use Rattle.references.specs.Kept.{text_cmp}
use Rattle.references.specs.References.{lacks, name_of}
use Rattle.references.proofs.Firsts.{least_kept}
use Rattle.references.proofs.Kept.{from_empty, kept_names}
use Rattle.references.proofs.places.undeclared_use.Goals as goal

pub returns : goal.returns
returns c =
    let names = map name_of (map declared_of c.args.declared.now) in
    let added = items_from_extend {E = Unit {0}} (Ok tt) c.in_ok-extend.ensures.ran (YieldsList-from_map _ (λ d. d.name) (YieldsList-at c.map.ensures.source (YieldsList-from_slice c.args.declared.now cc)) c.map.ensures.closure (λ x r q k. search (rules, tests))) in
    let kept = kept_names c.args.declared.now c.extend.new.self (from_empty text_cmp _ c.new-names.result c.extend.new.self c.new-names.ensures.empty added) in
    let soonest = least_kept (lacks c.args.own.now names) c.args.uses.now c.min.result
    (min_from_yields_List _ _ c.min.ensures.ran (YieldsList-from_map _ (λ u. u.place) (YieldsList-at c.map-2.ensures.source (YieldsList-from_filter _ (λ u. lacks c.args.own.now names (use_of u)) (YieldsList-at c.filter.ensures.source (YieldsList-from_slice c.args.uses.now cc)) c.filter.ensures.closure (λ x b q k. search (rules, tests, kept)))) c.map-2.ensures.closure (λ x r q k. search (rules, tests)))) in
    grind (arith, soonest)
