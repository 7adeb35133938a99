use Rattle.std.proofs.Common.{◌≡◌, not, arith}
use Rattle.std.proofs.lemmas.Bool.Decides.{Decides-at, nat_tests}
use Rattle.text.specs.Names.{identifier}
use Rattle.text.proofs.NamesDecided.{identifier-Decides}
use Rattle.text.proofs.names.is_identifier.Goals as goal

pub returns-then-is_spelled : goal.returns-then-is_spelled
unfolding identifier
returns-then-is_spelled c =
    let v : not c.is_keyword.result ≡ identifier c.args.s.now = grind (arith, nat_tests) in
    record { value = v; decides = Decides-at _ _ v (identifier-Decides c.args.s.now) }

pub returns-else-is_spelled : goal.returns-else-is_spelled
unfolding identifier
returns-else-is_spelled c =
    let v : c.if-s-le-LONGEST_IDENTIFIER.value ≡ identifier c.args.s.now = grind (arith, nat_tests) in
    record { value = v; decides = Decides-at _ _ v (identifier-Decides c.args.s.now) }
