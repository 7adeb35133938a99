use Rattle.std.proofs.Common.{arith, rules}
use Rattle.binding.proofs.Indexes.{bound_either}
use Rattle.binding.proofs.binder.Binder.is_bound.Goals as goal

pub returns-then-contains : goal.returns-then-contains
returns-then-contains c =
    let either = bound_either c.args.self.now c.args.name c.requires (search rules) in
    grind (arith, either)

pub returns-else-contains : goal.returns-else-contains
returns-else-contains c =
    let either = bound_either c.args.self.now c.args.name c.requires (search rules) in
    grind (arith, either)
