use Rattle.std.proofs.Common.{◌<◌, vec_items, arith}
use Rattle.std.proofs.lemmas.List.Elements.{All-from_get_or, recursion_from_All}
use Rattle.rules.proofs.Loading.{loads_exactly_lem}
use Rattle.session.proofs.Loading.{refused-load}
use Rattle.session.proofs.state.Session.load.Goals as goal

pub returns-in_err-files : goal.returns-in_err-files
returns-in_err-files c =
    let p = refused-load c.args.bytes.now (vec_items c.args.self.now.bytes) (recursion_from_All (λ b. b < 256) c.args.bytes.now (All-from_get_or (λ b. b < 256) c.args.bytes.now 0 (λ i h. omega (arith, (c.type_inv.bytes i).fits)))) c.from_residual.result _ c.from_residual.ensures.1 c.in_err-files.ensures in
    record { answer = p.0; exactly = p.1 }

pub returns : goal.returns
returns c =
    record { answer = (c.in_ok-files.ensures.0, c.in_ok-copy.ensures.items); exactly = (loads_exactly_lem c.args.bytes.now (recursion_from_All (λ b. b < 256) c.args.bytes.now (All-from_get_or (λ b. b < 256) c.args.bytes.now 0 (λ i h. omega (arith, (c.type_inv.bytes i).fits))))).0 c.in_ok-files.ensures.0 }
