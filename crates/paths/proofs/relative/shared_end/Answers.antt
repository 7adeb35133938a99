use Rattle.std.proofs.Common.{eqb, take, arith, refl, sym}
use Rattle.std.proofs.lemmas.Bool.{false≢true}
use Rattle.std.proofs.lemmas.List.{length-take-le}
use Rattle.std.proofs.lemmas.List.Sums.{common_prefix_len-le}
use Rattle.paths.proofs.Steps.{last_within, shared-ends, shared-last}
use Rattle.paths.proofs.relative.shared_end.Goals as goal
use Rattle.paths.proofs.relative.shared_end.Goals.{else-ends_part-via-then-ends_part+else-ends_part-2, else-ends_part-via-else-ends_part}

pub slice_bounds-last_dot-end : goal.slice_bounds-last_dot-end
slice_bounds-last_dot-end c =
    let l = common_prefix_len-le eqb c.args.base.now c.args.target.now in
    sym (length-take-le c.common_len-same.result c.args.base.now (omega (arith, c.common_len-same.ensures)))

pub returns-then-ends_part-2 : goal.returns-then-ends_part-2
returns-then-ends_part-2 c =
    let l = common_prefix_len-le eqb c.args.base.now c.args.target.now in
    record {
      value = shared-ends c.args.base.now c.args.target.now c.common_len-same.result c.common_len-same.ensures (c.if-ends_part.ensures.0 refl) (c.if-ends_part-2.ensures.0 refl);
      fits = (omega (arith, c.common_len-same.ensures), omega (arith, c.common_len-same.ensures));
    }

pub returns : goal.returns
returns c =
    let l = common_prefix_len-le eqb c.args.base.now c.args.target.now in
    let n = length-take-le c.common_len-same.result c.args.base.now (omega (arith, c.common_len-same.ensures)) in
    record {
      value = shared-last c.args.base.now c.args.target.now c.common_len-same.result c.last_dot.result c.common_len-same.ensures (λ e f. elim c.else-ends_part.branch [
        | else-ends_part-via-then-ends_part+else-ends_part-2 w ↦ absurd (false≢true (w.if-ends_part-2.ensures.1 f))
        | else-ends_part-via-else-ends_part w ↦ absurd (false≢true (w.if-ends_part.ensures.1 e))
      ]) c.last_dot.ensures;
      fits = last_within (take c.common_len-same.result c.args.base.now) c.last_dot.result _ _ c.last_dot.ensures (omega arith) (omega (arith, c.common_len-same.ensures));
    }
