use Rattle.std.proofs.Common.{◌+◌, ◌-◌, sym, refl, ap, ◌∙◌, arith}
use Rattle.walk.specs.Puts.{skip, skips}
use Rattle.walk.proofs.Going.{skip-zero, skip-inside, skips-more}
use Rattle.walk.proofs.cursor.Cursor.+skips.Goals as goal

pub skip_expr-returns-then-depth-gt0 : goal.skip_expr-returns-then-depth-gt0
skip_expr-returns-then-depth-gt0 t c =
    record {
      rest = skip-inside c.args.depth c.args.self.now.rest.now c.next-head.new.self.rest.now _ _ (λ z. omega arith) c.next-head.ensures.is c.next-head.ensures.rest c.skip_parts.ensures.rest;
      end = c.skip_parts.ensures.end ∙ c.next-head.ensures.end;
    }

pub skip_expr-returns-else-depth-gt0 : goal.skip_expr-returns-else-depth-gt0
skip_expr-returns-else-depth-gt0 t c = record { rest = skip-zero c.args.depth c.args.self.now.rest.now (omega arith); end = refl }

pub skip_list-loop-preserved : goal.skip_list-loop-preserved
skip_list-loop-preserved t c =
    (c.skip_expr.ensures.end ∙ c.loop.invariant.0, ap (skips (skip c.args.depth) (c.args.n - (c.loop.counter + 1))) c.skip_expr.ensures.rest ∙ (sym (skips-more (skip c.args.depth) c.args.n c.loop.counter _ (omega arith)) ∙ c.loop.invariant.1))
