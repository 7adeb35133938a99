use Rattle.std.proofs.Common.{◌≡◌, eqb, leb, length, arith, rules, tests}
use Rattle.std.proofs.lemmas.Bool.Decides.{Decides-at, nat_tests}
use Rattle.std.proofs.lemmas.Iterator.Splits.{YieldsList-from_slice_split}
use Rattle.std.proofs.lemmas.Iterator.Search.{all_from_yields_List}
use Rattle.text.specs.Names.{dotted, identifier}
use Rattle.text.proofs.Steps.{parts-split}
use Rattle.text.proofs.NamesDecided.{dotted-Decides}
use Rattle.text.proofs.names.is_dotted_name.Goals as goal

pub returns-then-s-le-LONGEST_DOTTED_NAME : goal.returns-then-s-le-LONGEST_DOTTED_NAME
unfolding dotted
returns-then-s-le-LONGEST_DOTTED_NAME c =
    let all = all_from_yields_List identifier _ _ c.all.result c.all.ensures.ran
    (YieldsList-from_slice_split _ (λ b. eqb b 46) c.args.s.now c.split.ensures.rest c.split.ensures.done c.split.ensures.closure (λ x b q k. search (rules, tests)))
    (λ x b q k. search (rules, tests)) in
    let p = parts-split c.args.s.now in
    let v : c.all.result ≡ dotted c.args.s.now = grind (arith, nat_tests) in
    record { value = v; decides = Decides-at _ _ v (dotted-Decides c.args.s.now) }

pub returns-else-s-le-LONGEST_DOTTED_NAME : goal.returns-else-s-le-LONGEST_DOTTED_NAME
unfolding dotted
returns-else-s-le-LONGEST_DOTTED_NAME c =
    let v : leb (length c.args.s.now) 255 ≡ dotted c.args.s.now = grind (arith, nat_tests) in
    record { value = v; decides = Decides-at _ _ v (dotted-Decides c.args.s.now) }
