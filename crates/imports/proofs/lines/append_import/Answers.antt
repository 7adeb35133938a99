use Rattle.std.proofs.Common.{◌≡◌, true, not, vec_items, arith}
use Rattle.model.specs.Limits.{same_text_of}
use Rattle.imports.proofs.Going.{writes_as}
use Rattle.imports.proofs.lines.append_import.Goals as goal

pub returns-in_ok-extend_from_slice-3 : goal.returns-in_ok-extend_from_slice-3
returns-in_ok-extend_from_slice-3 c =
    let other : true ≡ not (same_text_of c.args.root.now c.args.name.now) = c.if-ne.ensures in
    writes_as (vec_items c.args.out.now) (vec_items c.extend_from_slice.new.self) (vec_items c.extend_from_slice-then-ne.new.self) _
    c.args.root.now c.args.name.now (grind arith)
    c.in_ok-extend_from_slice.ensures.items c.in_ok-extend_from_slice-2.ensures.items c.in_ok-extend_from_slice-3.ensures.items
