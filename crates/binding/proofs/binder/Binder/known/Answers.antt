use Rattle.std.proofs.Common.{sym, ◌∙◌, subst}
use Rattle.references.specs.References.{pair_of}
use Rattle.binding.specs.Binding.{name_of}
use Rattle.binding.specs.Sound.{Shows, pool_of, bindings_in}
use Rattle.binding.proofs.binder.Binder.known.Goals as goal

pub returns : goal.returns
returns c =
    subst (λ o. Shows (pool_of c.args.self.now) o (name_of (bindings_in c.args.self.now) (pair_of c.args.target)))
    (sym (c.copied.ensures ∙ c.get.ensures.value)) (c.requires.finds c.args.target)
