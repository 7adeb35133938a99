use Rattle.std.proofs.Common.{◌≡◌, ◌++◌, vec_items, ap, ◌∙◌}
use Rattle.references.specs.References.{pair_of}
use Rattle.binding.specs.declared.name.Name.TheVariants.{Alias}
use Rattle.binding.specs.Sound.{bindings_in}
use Rattle.binding.proofs.Entering.{enters, alias_put, alias_grows, alias_is, alias_lies, last_put}
use Rattle.binding.proofs.binder.Binder.enter_alias.Goals as goal

pub returns : goal.returns
returns c =
    let s = c.args.self.now in
    let w = vec_items c.args.alias.name in
    let put = c.in_ok-insert.ensures.updates in
    let last = c.in_ok-insert-2.ensures.updates in
    let grown : vec_items c.extend_from_slice.new.self ≡ vec_items s.pool ++ w =
    c.in_ok-extend_from_slice.ensures.items ∙ ap (λ l. vec_items s.pool ++ l) c.as_slice.ensures.value in
    let start = c.len.ensures ∙ s.pool.ok.0 in
    let len = c.len-2.ensures ∙ c.args.alias.name.ok.0 in
    let is = alias_is (vec_items s.pool) w (vec_items c.extend_from_slice.new.self) c.len.result c.len-2.result grown start len in
    let lies = alias_lies (vec_items s.pool) w (vec_items c.extend_from_slice.new.self) c.len.result c.len-2.result grown start len in
    enters s record { pool = c.extend_from_slice.new.self; entries = c.push.new.self; targets = c.insert-3.new.self; names = s.names; aliases = c.insert.new.self; lasts = c.insert-2.new.self }
    c.args.target (Alias record { start = c.len.result; len = c.len-2.result }) w
    (alias_grows (vec_items s.pool) w _ grown) is lies c.requires.indexed c.requires.unnamed
    c.in_ok-push.ensures.items c.in_ok-insert-3.ensures.updates c.insert-3.ensures.ordered c.requires.indexed.names c.insert.ensures.ordered c.insert-2.ensures.ordered
    (last_put s.pool.items (vec_items c.extend_from_slice.new.self) (bindings_in s) w (pair_of c.args.target) s.lasts c.insert-2.new.self c.args.target.name record { name = record { start = c.len.result; len = c.len-2.result }; number = c.args.alias.number } last is lies c.requires.comes c.requires.indexed.starts)
    (alias_put s.names s.aliases c.insert.new.self c.args.alias.name put)
