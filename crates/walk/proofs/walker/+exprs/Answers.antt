use Rattle.std.proofs.Common.{ℕ, List, sym, refl, ap, rules, arith}
use Rattle.model.specs.Tree.{Expr, end, item}
use Rattle.model.specs.Steps.{head_of}
use Rattle.walk.specs.Total.{expr}
use Rattle.walk.specs.Puts.{expr_put, exprs_put}
use Rattle.walk.specs.Walks.{left, uses_of}
use Rattle.walk.proofs.Going.{made_by, expr-zero, walks_inside, noted_name}
use Rattle.walk.proofs.Repeating.{walks_rows}
use Rattle.walk.proofs.walker.+exprs.Goals as goal

pub Walker::walk_expr-returns-then-depth-eq0 : goal.Walker::walk_expr-returns-then-depth-eq0
Walker::walk_expr-returns-then-depth-eq0 t c =
    let e = sym (expr-zero c.args.self.now.at.end c.args.depth (left c.args.self.now) c.if-depth-eq0.true) in
    record { rest = ap (λ (o : Expr × List ℕ). o.1) e; uses = ap (λ (o : Expr × List ℕ). expr_put o.0 (uses_of c.args.self.now)) e; end = refl }

pub Walker::walk_expr-returns : goal.Walker::walk_expr-returns
Walker::walk_expr-returns t c =
    made_by c.walk_parts.result c.walk_parts.ensures (walks_inside c.args.depth c.place-place.result (head_of c.next-head.result) c.args.self.now _ _ (λ z. omega arith) c.place-place.ensures c.next-head.ensures.is c.next-head.ensures.rest c.next-head.ensures.end refl)

pub Walker::walk_list-returns : goal.Walker::walk_list-returns
Walker::walk_list-returns t c =
    walks_rows end item (λ end. expr end c.args.depth) expr_put exprs_put (λ x. refl) (λ a l x. refl) _ _ (λ s t x. search rules) c.args.n c.args.self.now _ c.times.result c.times.ensures

pub Walker::walk_parts-returns-in-Name : goal.Walker::walk_parts-returns-in-Name
Walker::walk_parts-returns-in-Name t c =
    made_by c.note.result c.note.ensures (noted_name (expr c.args.self.now.at.end c.args.depth) c.args.place c.args.head c.in-Name.name c.args.self.now _ c.in-Name.is)
