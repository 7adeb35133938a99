use Rattle.std.proofs.Common.{vec_items, arith, rules}
use Rattle.std.proofs.lemmas.List.{length-take-le}
use Rattle.naming.proofs.Fronts.{front_le}
use Rattle.naming.proofs.Appends.{puts_none, puts_next}
use Rattle.naming.proofs.next.append_next.Goals as goal

pub returns-in_default : goal.returns-in_default
returns-in_default c = puts_none c.args.name.now (vec_items c.args.out.now) c.split_number-at.result.1 c.split_number-at.ensures.number (λ l. c.in_default.ensures (omega arith))

pub slice_bounds-extend_from_slice-end : goal.slice_bounds-extend_from_slice-end
slice_bounds-extend_from_slice-end c =
    let l = front_le c.args.name.now in
    omega (arith, length-take-le c.split_number-at.result.0 c.args.name.now (omega (arith, c.split_number-at.ensures.front)))

pub returns : goal.returns
returns c =
    puts_next c.args.name.now (vec_items c.args.out.now) (vec_items c.extend_from_slice.new.self) (vec_items c.extend_from_slice-2.new.self)
    c.split_number-at.result.0 c.split_number-at.result.1 c.in-Some.next
    c.split_number-at.ensures.front c.split_number-at.ensures.number (omega (arith, c.in-Some.ensures)) (omega (arith, c.in-Some.ensures))
    (search rules) (search rules)
