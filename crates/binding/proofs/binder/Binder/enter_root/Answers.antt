use Rattle.std.proofs.Common.{refl}
use Rattle.std.specs.BTreeMap as tree
use Rattle.references.specs.Kept.{text_cmp}
use Rattle.binding.specs.declared.name.Name.TheVariants.{Model}
use Rattle.binding.proofs.Entering.{enters, root-put}
use Rattle.binding.proofs.binder.Binder.enter_root.Goals as goal

pub returns : goal.returns
returns c =
    let s = c.args.self.now in
    let put = c.in_ok-insert.ensures.updates in
    enters s record { pool = s.pool; entries = c.push.new.self; targets = c.insert-2.new.self; names = c.insert.new.self; aliases = s.aliases; lasts = s.lasts }
    c.args.target (Model c.args.target.name) c.args.target.name.now (λ n h. (refl, h)) refl tt c.requires.indexed c.requires.unnamed
    c.in_ok-push.ensures.items c.in_ok-insert-2.ensures.updates c.insert-2.ensures.ordered c.insert.ensures.ordered c.requires.indexed.aliases c.requires.indexed.lasts
    (λ q kept. kept (tree.get text_cmp s.lasts q) (c.requires.indexed.starts q))
    (root-put s.names s.aliases c.insert.new.self c.args.target.name put)
