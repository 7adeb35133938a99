use Rattle.std.proofs.Common.{vec_len, sym, ◌∙◌}
use Rattle.std.proofs.lemmas.Bool.{eqb-false}
use Rattle.imports.proofs.Growing.{puts_line}
use Rattle.imports.proofs.lines.put_line.Goals as goal

pub returns-in_ok-insert : goal.returns-in_ok-insert
returns-in_ok-insert c =
    puts_line c.args.lines.now c.insert.new.self c.args.line
    (λ none. eqb-false (vec_len c.args.line) 0 (sym c.if-not-is_empty.ensures) (c.args.line.ok.0 ∙ none))
    c.in_ok-insert.ensures.keys c.insert.ensures.ordered
