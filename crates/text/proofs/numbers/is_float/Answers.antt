use Rattle.std.proofs.Common.{◌≡◌, false, eqb, arith, sym, ◌∙◌, rules, tests}
use Rattle.std.proofs.lemmas.Bool.Decides.{Decides-at}
use Rattle.std.proofs.lemmas.Iterator.{YieldsList-from_slice}
use Rattle.std.proofs.lemmas.Iterator.Search.{position_from_yields_List}
use Rattle.text.specs.Numbers.{float}
use Rattle.text.proofs.NumbersDecided.{float-Decides}
use Rattle.text.proofs.Steps.{fractional-none, fractional-at}
use Rattle.text.proofs.numbers.is_float.Goals as goal

pub returns-in-None : goal.returns-in-None
unfolding float
returns-in-None c =
    let at = position_from_yields_List (λ b. eqb b 46) _ _ _ c.position.ensures.ran (YieldsList-from_slice c.after_sign-magnitude.result.now cc) (λ x b q k. search (rules, tests)) in
    let f = fractional-none c.after_sign-magnitude.result.now (sym at ∙ c.in-None.is) in
    let v : false ≡ float c.args.s.now = grind arith in
    record { value = v; decides = Decides-at _ _ v (float-Decides c.args.s.now) }

pub returns-then-are_some_digits : goal.returns-then-are_some_digits
unfolding float
returns-then-are_some_digits c =
    let at = position_from_yields_List (λ b. eqb b 46) _ _ _ c.position.ensures.ran (YieldsList-from_slice c.after_sign-magnitude.result.now cc) (λ x b q k. search (rules, tests)) in
    let f = fractional-at c.after_sign-magnitude.result.now _ (sym at ∙ c.in-Some.is) in
    let v : c.are_some_digits-then-are_some_digits.result ≡ float c.args.s.now = grind arith in
    record { value = v; decides = Decides-at _ _ v (float-Decides c.args.s.now) }

pub returns-else-are_some_digits : goal.returns-else-are_some_digits
unfolding float
returns-else-are_some_digits c =
    let at = position_from_yields_List (λ b. eqb b 46) _ _ _ c.position.ensures.ran (YieldsList-from_slice c.after_sign-magnitude.result.now cc) (λ x b q k. search (rules, tests)) in
    let f = fractional-at c.after_sign-magnitude.result.now _ (sym at ∙ c.in-Some.is) in
    let v : c.are_some_digits.result ≡ float c.args.s.now = grind arith in
    record { value = v; decides = Decides-at _ _ v (float-Decides c.args.s.now) }
