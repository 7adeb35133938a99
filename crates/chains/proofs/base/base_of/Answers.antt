use Rattle.std.proofs.Common.{rules, arith, take, sym, ap, ◌∙◌}
use Rattle.chains.specs.Chains.{base_of}
use Rattle.chains.proofs.Dots.{none-from, before-none, before_at}
use Rattle.chains.proofs.base.base_of.Goals as goal

pub returns-in-Some : goal.returns-in-Some
returns-in-Some c =
    ap (λ k. take k c.args.own.now) (omega arith) ∙ before_at c.args.own.now c.in-Some.dot (search rules) (search rules) (search rules) ∙ ap (base_of c.args.own.now) (sym c.if-package.false)

pub returns-in-None : goal.returns-in-None
returns-in-None c =
    sym (before-none c.args.own.now (none-from c.args.own.now (search rules))) ∙ ap (base_of c.args.own.now) (sym c.if-package.false)
