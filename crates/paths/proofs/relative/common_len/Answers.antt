use Rattle.std.proofs.Common.{ℕ, eqb, ◌∙◌, rules, tests}
use Rattle.std.specs.List.{zip}
use Rattle.std.proofs.lemmas.Iterator.{YieldsList-from_slice, YieldsList-from_zip}
use Rattle.std.proofs.lemmas.Iterator.Consumers.{count_from_yields_List}
use Rattle.std.proofs.lemmas.Iterator.Search.{YieldsList-from_take_while}
use Rattle.std.proofs.lemmas.List.Folds.{length-prefix_len}
use Rattle.paths.proofs.Steps.{prefix_len-zip}
use Rattle.paths.proofs.relative.common_len.Goals as goal

pub returns : goal.returns
returns c =
    count_from_yields_List c.take_while.result c.count.result c.count.ensures.ran
    (YieldsList-from_take_while _ (λ (p : ℕ × ℕ). eqb p.0 p.1) (YieldsList-from_zip (YieldsList-from_slice c.args.base.now cc) (YieldsList-from_slice c.args.target.now cc)) c.take_while.ensures.closure c.take_while.ensures.done (λ x b q k. search (rules, tests)))
    ∙ length-prefix_len (λ (p : ℕ × ℕ). eqb p.0 p.1) (zip c.args.base.now c.args.target.now)
    ∙ prefix_len-zip c.args.base.now c.args.target.now
