use Rattle.std.proofs.Common.{◌≡◌, ap, ◌∙◌, rules}
use Rattle.std.proofs.lemmas.Bool.Decides.{Decides-at}
use Rattle.text.specs.Numbers.{int, natural}
use Rattle.text.proofs.NumbersDecided.{int-Decides}
use Rattle.text.proofs.Steps.{natural-zero, natural_other}
use Rattle.text.proofs.numbers.is_int.Goals as goal

pub returns-in-48 : goal.returns-in-48
unfolding int
returns-in-48 c =
    let v : c.is_empty.result ≡ int c.args.s.now =
    c.is_empty.ensures
    ∙ natural-zero c.after_sign-magnitude.result.now c.in-48.len_at_least (search rules)
    ∙ ap natural c.after_sign-magnitude.ensures in
    record { value = v; decides = Decides-at _ _ v (int-Decides c.args.s.now) }

pub returns-in_default : goal.returns-in_default
unfolding int
returns-in_default c =
    let v : c.are_some_digits.result ≡ int c.args.s.now =
    c.are_some_digits.ensures ∙ natural_other c.after_sign-magnitude.result.now (search rules) ∙ ap natural c.after_sign-magnitude.ensures in
    record { value = v; decides = Decides-at _ _ v (int-Decides c.args.s.now) }
