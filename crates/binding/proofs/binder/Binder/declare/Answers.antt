use Rattle.std.proofs.Common.{◌∙◌}
use Rattle.binding.specs.Binding.{find}
use Rattle.binding.specs.Sound.{bindings_in}
use Rattle.binding.proofs.Declaring.{declares_old, declares-new, is_none}
use Rattle.binding.proofs.binder.Binder.declare.Goals as goal

pub returns-then-is_bound : goal.returns-then-is_bound
returns-then-is_bound c =
    record { more = declares_old c.args.own.now c.args.name.now (bindings_in c.args.self.now) c.if-is_bound.ensures; indexed = c.requires.indexed }

pub enter_root-requires : goal.enter_root-requires
enter_root-requires c =
    record { indexed = c.requires.indexed; unnamed = c.requires.free c.args.name.now (is_none (find (bindings_in c.args.self.now) c.args.name.now) c.if-is_bound.ensures) }

pub returns : goal.returns
returns c = record {
  more = λ ds e. c.in_ok-enter_root.ensures.bindings ∙ declares-new c.args.own.now c.args.name.now (bindings_in c.args.self.now) c.if-is_bound.ensures ds e;
  indexed = c.in_ok-enter_root.ensures.indexed;
}
