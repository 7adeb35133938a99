use Rattle.std.proofs.Common.{sym, refl, ap, ◌∙◌, arith}
use Rattle.walk.proofs.Going.{expr-inside, bare_zero, bare_other}
use Rattle.model.specs.Steps.{head_of}
use Rattle.walk.proofs.cursor.Cursor.bare_name.Goals as goal

pub returns-then-depth-eq0-clause-is : goal.returns-then-depth-eq0-clause-is
returns-then-depth-eq0-clause-is c = (refl, bare_zero c.args.depth c.args.self.now.rest.now c.if-depth-eq0.true)

pub returns-in-Name-clause-is : goal.returns-in-Name-clause-is
returns-in-Name-clause-is c n =
    let h = c.in-Name.is in
    expr-inside n c.args.depth _ c.args.self.now.rest.now c.next.new.self.rest.now _ (λ z. omega arith) refl (ap head_of (sym h) ∙ c.next.ensures.is) c.next.ensures.rest

pub returns-in_default-clause-is : goal.returns-in_default-clause-is
returns-in_default-clause-is c = (refl, bare_other c.args.depth c.args.self.now.rest.now c.next.new.self.rest.now c.next.result c.if-depth-eq0.false c.next.ensures.is c.next.ensures.rest c.in_default.not-Name)
