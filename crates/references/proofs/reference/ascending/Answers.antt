use Rattle.std.proofs.Common.{◌≡◌, map, Ok, ap, ◌∙◌, vec_items, rules, tests}
use Rattle.std.specs.BTreeSet.{keys}
use Rattle.std.proofs.lemmas.Result.{IfOk-weaker}
use Rattle.std.proofs.lemmas.Iterator.{YieldsList-from_slice, YieldsList-from_map, items_from_collect}
use Rattle.std.proofs.lemmas.Iterator.Adapters.{items_from_extend}
use Rattle.std.proofs.lemmas.Iterator.Consumers.{YieldsList-at, YieldsList-from_rest}
use Rattle.references.specs.Kept.{reference_cmp}
use Rattle.references.specs.References.{pair_of}
use Rattle.references.proofs.Kept.{from_empty, kept_references}
use Rattle.references.proofs.reference.ascending.Goals as goal

pub returns : goal.returns
returns c =
    let set = c.extend.new.self in
    let added = items_from_extend {E = Unit {0}} (Ok tt) c.in_ok-extend.ensures.ran (YieldsList-from_map _ (λ u. u.reference) (YieldsList-at c.map.ensures.source (YieldsList-from_slice c.args.uses.now cc)) c.map.ensures.closure (λ x r q k. search (rules, tests))) in
    IfOk-weaker c.collect.result (λ v. vec_items v ≡ keys set) _ (λ v e. ap (map pair_of) e ∙ kept_references c.args.uses.now set (from_empty reference_cmp _ c.new-set.result set c.new-set.ensures.empty added))
    (items_from_collect c.collect.result c.collect.ensures.ran (YieldsList-from_rest (keys set) c.into_iter.ensures.into_iter_gives.0))
