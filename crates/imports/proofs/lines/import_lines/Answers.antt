use Rattle.std.proofs.Common.{◌≡◌, IfOk, vec_items, ap, ◌∙◌, subst, rules}
use Rattle.std.specs.BTreeSet.{keys}
use Rattle.std.proofs.iter.runs.Made.{chains}
use Rattle.binding.specs.Held.{bindings_of}
use Rattle.imports.specs.Held.{Puts}
use Rattle.imports.proofs.Going.{sofar_none, turn_skip, turn_join, turn_next, same_sofar, lines-all}
use Rattle.imports.proofs.lines.import_lines.Goals as goal
use Rattle.imports.proofs.lines.import_lines.Goals.{then-is_imported+in_ok-append_import, then-eq+in_ok-extend_from_slice, else-eq+in_ok-next+in_ok-put_line, else-is_imported}

pub loop-e-init : goal.loop-e-init
loop-e-init c =
    sofar_none c.args.own.now c.args.base.now (bindings_of c.args.bindings.pool.now c.args.bindings.entries.now) (vec_items c.new-line.result) c.new-lines.result
    c.new-lines.ensures.empty c.new-lines.ensures.ordered c.new-line.ensures.items

pub loop-e-preserved : goal.loop-e-preserved
loop-e-preserved c =
    elim c.if-is_imported.branch [
      | then-is_imported+in_ok-append_import w ↦ elim w.if-eq.branch [
        | then-eq+in_ok-extend_from_slice v ↦
            same_sofar c.args.own.now c.args.base.now (bindings_of c.args.bindings.pool.now c.args.bindings.entries.now) _ _ c.loop-e.from.now _ (vec_items w.append_import.new.out) _ c.loop-e.lines
            (ap (λ x. x.now) (w.from-is ∙ v.from-is)) (ap vec_items w.line-is) (w.lines-is ∙ v.lines-is)
            (turn_join c.args.own.now c.args.base.now c.args.bindings.pool.now c.args.bindings.entries.now c.loop-e.e-index _ c.loop-e.from.now (vec_items c.loop-e.line) c.text_of-name.result.now
            c.loop-e-test.true c.text_of-name.ensures c.loop-e.lines c.loop-e.invariant (vec_items w.if-eq.line) (vec_items w.append_import.new.out)
            w.if-is_imported.ensures v.if-eq.ensures (ap vec_items v.line-is ∙ v.in_ok-extend_from_slice.ensures.items) w.in_ok-append_import.ensures)
        | else-eq+in_ok-next+in_ok-put_line v ↦
            same_sofar c.args.own.now c.args.base.now (bindings_of c.args.bindings.pool.now c.args.bindings.entries.now) _ _ _ _ (vec_items w.append_import.new.out) _ v.put_line.new.lines
            (ap (λ x. x.now) (w.from-is ∙ v.from-is)) (ap vec_items w.line-is) (w.lines-is ∙ v.lines-is)
            (turn_next c.args.own.now c.args.base.now c.args.bindings.pool.now c.args.bindings.entries.now c.loop-e.e-index _ c.loop-e.from.now (vec_items c.loop-e.line) c.text_of-name.result.now
            c.loop-e-test.true c.text_of-name.ensures c.loop-e.lines c.loop-e.invariant (vec_items w.if-eq.line) (vec_items w.append_import.new.out) v.put_line.new.lines
            w.if-is_imported.ensures v.if-eq.ensures (ap vec_items (v.line-is ∙ v.replace.ensures.after) ∙ v.in_ok-next.ensures) w.in_ok-append_import.ensures
            (subst (λ k. Puts c.loop-e.lines (vec_items k) v.put_line.new.lines) v.replace.ensures.value v.in_ok-put_line.ensures))
      ]
      | else-is_imported w ↦
          same_sofar c.args.own.now c.args.base.now (bindings_of c.args.bindings.pool.now c.args.bindings.entries.now) _ _ c.loop-e.from.now _ (vec_items c.loop-e.line) _ c.loop-e.lines
          (ap (λ x. x.now) w.from-is) (ap vec_items w.line-is) w.lines-is
          (turn_skip c.args.own.now c.args.base.now c.args.bindings.pool.now c.args.bindings.entries.now c.loop-e.e-index _ c.loop-e.from.now (vec_items c.loop-e.line) c.text_of-name.result.now
          c.loop-e-test.true c.text_of-name.ensures c.loop-e.lines c.loop-e.invariant w.if-is_imported.ensures)
    ]

pub returns : goal.returns
returns c =
    let is : IfOk c.collect.result (λ v. vec_items v ≡ keys c.put_line-2.new.lines) = search (rules, chains) in
    lines-all c.args.own.now c.args.base.now c.args.bindings.pool.now c.args.bindings.entries.now c.loop-e.from.now (vec_items c.loop-e.line) c.loop-e.e-index
    c.loop-e.lines c.put_line-2.new.lines c.collect.result c.loop-e-test.false c.loop-e.invariant c.in_ok-put_line-2.ensures is
