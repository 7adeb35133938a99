use Rattle.std.proofs.Common.{vec_items, vec_len, sym, ◌∙◌}
use Rattle.std.proofs.lemmas.Bool.{eqb-false}
use Rattle.session.proofs.Counting.{counts}
use Rattle.session.proofs.state.Session.count.Goals as goal

pub returns : goal.returns
returns c =
    counts (vec_items c.args.self.now.bytes) (vec_items c.args.self.now.files) c.len.result (λ z. eqb-false (vec_len c.args.self.now.bytes) 0 (sym c.if-is_empty.ensures) (c.args.self.now.bytes.ok.0 ∙ z)) c.args.self.now.listed (c.len.ensures ∙ c.args.self.now.files.ok.0)
