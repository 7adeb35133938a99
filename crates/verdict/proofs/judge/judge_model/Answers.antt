use Rattle.std.proofs.Common.{◌<◌, length, vec_items, Ok, sym, ◌∙◌, rules, tests, arith}
use Rattle.std.proofs.lemmas.Iterator.{YieldsList-from_slice, YieldsList-from_map, items_from_collect}
use Rattle.std.proofs.lemmas.Iterator.Consumers.{YieldsList-at}
use Rattle.model.specs.Steps.{file_of}
use Rattle.std.proofs.lemmas.Bool.{eqb-false}
use Rattle.std.proofs.lemmas.List.Elements.{All-from_get_or, recursion_from_All}
use Rattle.verdict.proofs.Verdicts.{accepts, refuses}
use Rattle.verdict.proofs.judge.judge_model.Goals as goal

pub returns-in_err-check : goal.returns-in_err-check
returns-in_err-check c =
    let bytes = recursion_from_All (λ b. b < 256) c.args.model.now (All-from_get_or (λ b. b < 256) c.args.model.now 0 (λ i h. omega (arith, (c.type_inv.model i).fits))) in
    refuses c.args.model.now bytes (eqb-false (length c.args.model.now) 0 (sym c.if-is_empty.ensures)) c.if-model-gt-LONGEST.false c.in_ok-audit.audit.found c.in_ok-audit.audit.list c.in_ok-audit.ensures
    c.from_residual-in_err-check.result _ c.from_residual-in_err-check.ensures.1 c.in_err-check.ensures

pub returns : goal.returns
returns c =
    let bytes = recursion_from_All (λ b. b < 256) c.args.model.now (All-from_get_or (λ b. b < 256) c.args.model.now 0 (λ i h. omega (arith, (c.type_inv.model i).fits))) in
    let a = accepts c.args.model.now bytes (eqb-false (length c.args.model.now) 0 (sym c.if-is_empty.ensures)) c.if-model-gt-LONGEST.false c.in_ok-audit.audit.found c.in_ok-audit.audit.list c.in_ok-audit.ensures c.in_ok-check.ensures in
    let files = items_from_collect {E = Unit {0}} (Ok c.in_ok-files.files) c.in_ok-files.ensures.ran (YieldsList-from_map _ file_of (YieldsList-at c.map.ensures.source (YieldsList-from_slice (vec_items c.in_ok-audit.audit.list.modules) cc)) c.map.ensures.closure (λ x r q k. search (rules, tests))) in
    (a.0, files ∙ a.1)
