use Rattle.std.proofs.Common.{Some, rules}
use Rattle.std.proofs.lemmas.Bool.Decides.{Decides-eqb}
use Rattle.std.proofs.lemmas.Slice.Eq.{strip_prefix_is}
use Rattle.sink.proofs.Telling.{begins_if_plain, begins_other}
use Rattle.sink.proofs.comparing.begins_line.Goals as goal

pub returns-in-Some-eq10 : goal.returns-in-Some-eq10
returns-in-Some-eq10 c =
    let rest = c.in-Some-eq10.field-0 in
    begins_if_plain c.args.text.now c.args.line.now rest.now c.is_plain.result (strip_prefix_is Decides-eqb c.args.text.now c.args.line.now (Some rest) c.in-Some-eq10.ensures.cases) c.in-Some-eq10.len_at_least (search rules) c.is_plain.ensures

pub returns-in_default-3 : goal.returns-in_default-3
returns-in_default-3 c =
    begins_other c.args.text.now c.args.line.now (rw c.in_default.is at (strip_prefix_is Decides-eqb c.args.text.now c.args.line.now c.strip_prefix.result c.strip_prefix.ensures.cases))
