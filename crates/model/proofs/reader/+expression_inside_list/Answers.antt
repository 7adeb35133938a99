use Rattle.std.proofs.Common.{rules, arith}
use Rattle.model.specs.Audit.{audit_expr}
use Rattle.model.proofs.Going.{exits, expr_at-zero, expr-fault, expr-inside}
use Rattle.model.proofs.Repeating.{goes_laps}
use Rattle.model.proofs.reader.+expression_inside_list.Goals as goal

pub Reader::expression-returns-then-depth-eq0 : goal.Reader::expression-returns-then-depth-eq0
Reader::expression-returns-then-depth-eq0 t c =
    expr_at-zero c.args.self.now.at.end c.args.depth c.place-place.result _ _ c.if-depth-eq0.true c.place-place.ensures

pub Reader::expression-returns-in_err-head : goal.Reader::expression-returns-in_err-head
Reader::expression-returns-in_err-head t c =
    exits _ _ c.from_residual.result _ _ c.from_residual.ensures.1 (expr-fault c.args.self.now.at.end c.args.depth _ c.args.self.now.at.rest.now c.args.self.now.found (λ z. omega arith) c.in_err-head.ensures)

pub Reader::expression-returns : goal.Reader::expression-returns
Reader::expression-returns t c =
    expr-inside c.args.self.now c.judge.new.self c.inside.new.self c.next.new.self c.args.depth c.place-place.result _ c.inside.result (λ z. omega arith) c.place-place.ensures c.in_ok-head.ensures c.judge.ensures.found c.judge.ensures.at c.inside.ensures

pub Reader::list-returns : goal.Reader::list-returns
Reader::list-returns t c = goes_laps _ _ (λ n. audit_expr n c.args.depth) (λ x y r p. search rules) c.args.n _ _ c.times.result c.times.ensures
