use Rattle.std.proofs.Common.{vec_items, rules, sym, ◌∙◌}
use Rattle.paths.proofs.Ends.{is_target, writes_dots, writes_rest}
use Rattle.paths.proofs.relative.append_relative.Goals as goal

pub returns-in_default : goal.returns-in_default
returns-in_default c = let t = is_target c.args.base.now c.args.target.now (sym c.in_default.is ∙ c.shared_end.ensures.value) in rw (sym t) (search rules)

pub returns-in_ok-extend_from_slice : goal.returns-in_ok-extend_from_slice
returns-in_ok-extend_from_slice c =
    writes_rest c.args.base.now c.args.target.now (vec_items c.args.out.now) (vec_items c.push.new.self) (vec_items c.append_dots.new.out) _ c.in-Some.end
    c.in-Some.ensures.value c.in_ok-push.ensures.items c.in_ok-append_dots.ensures
    c.in_ok-extend_from_slice.ensures.items

pub returns-else-end-target : goal.returns-else-end-target
returns-else-end-target c =
    writes_dots c.args.base.now c.args.target.now (vec_items c.args.out.now) (vec_items c.push.new.self) _ c.in-Some.end
    c.in-Some.ensures.value c.if-end-target.false c.in_ok-push.ensures.items c.in_ok-append_dots.ensures
