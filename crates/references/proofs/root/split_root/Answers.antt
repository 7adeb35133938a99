use Rattle.std.proofs.Common.{◌≡◌, rules, tests, eqb, take, drop, ap, ◌∙◌, arith}
use Rattle.std.proofs.lemmas.Iterator.{YieldsList-from_slice}
use Rattle.std.proofs.lemmas.Iterator.Search.{position_from_yields_List}
use Rattle.references.proofs.Roots.{dot_at, dot-within, search_end, take-root, drop-root}
use Rattle.references.proofs.root.split_root.Goals as goal

ends_at_dot : (c : goal.After-split_at) → c.unwrap_or-end.result ≡ dot_at c.args.name.now
ends_at_dot c =
    search_end c.args.name.now c.position.result c.unwrap_or-end.result
    (position_from_yields_List (λ b. eqb b 46) _ _ _ c.position.ensures.ran (YieldsList-from_slice c.args.name.now cc) (λ x b q k. search (rules, tests))) c.unwrap_or-end.ensures

pub returns-clause-root : goal.returns-clause-root
returns-clause-root c =
    c.split_at.ensures.front ∙ ap (λ k. take k c.args.name.now) (grind (arith, ends_at_dot c, dot-within c.args.name.now)) ∙ take-root c.args.name.now

pub returns-clause-rest : goal.returns-clause-rest
returns-clause-rest c =
    c.split_at.ensures.back ∙ ap (λ k. drop k c.args.name.now) (grind (arith, ends_at_dot c, dot-within c.args.name.now)) ∙ drop-root c.args.name.now
