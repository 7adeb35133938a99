use Rattle.std.proofs.Common.{drop, sym, ap, ◌∙◌, subst, arith}
use Rattle.std.specs.Str.Parse.{AllDigits}
use Rattle.std.proofs.lemmas.List.{take_rest}
use Rattle.naming.specs.Next.{counted, number}
use Rattle.naming.proofs.Fronts.{front_le, front-digits}
use Rattle.naming.proofs.next.split_number.Goals as goal

pub slice_bounds-read_number-count : goal.slice_bounds-read_number-count
slice_bounds-read_number-count c = let l = front_le c.args.name.now in omega (arith, c.front_of-at.ensures)

pub slice_bounds-read_number-start : goal.slice_bounds-read_number-start
slice_bounds-read_number-start c = let l = front_le c.args.name.now in omega (arith, c.front_of-at.ensures)

pub read_number-requires : goal.read_number-requires
read_number-requires c =
    subst (λ ds. AllDigits 10 ds) (ap (λ k. drop k c.args.name.now) (sym c.front_of-at.ensures) ∙ sym (take_rest c.args.name.now c.front_of-at.result))
    (front-digits c.args.name.now)

pub returns : goal.returns
unfolding number
returns c =
    record {
      front = c.front_of-at.ensures;
      number = c.read_number.ensures ∙ (ap counted (take_rest c.args.name.now c.front_of-at.result) ∙ ap (λ k. counted (drop k c.args.name.now)) c.front_of-at.ensures);
    }
