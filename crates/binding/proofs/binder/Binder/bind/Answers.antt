use Rattle.std.proofs.Common.{length, vec_items, ap, ◌∙◌, subst}
use Rattle.naming.specs.Next.{next_name}
use Rattle.references.specs.References.{pair_of}
use Rattle.binding.specs.Binding.{name_of}
use Rattle.binding.specs.Sound.{pool_of, bindings_in, free_from, FreeAlias}
use Rattle.binding.proofs.Stepping.{bound-known, bound_entered, none_shown, taken-root, taken_alias, step-none, as_many}
use Rattle.binding.proofs.binder.Binder.bind.Goals as goal

pub returns-in-Some : goal.returns-in-Some
returns-in-Some c = bound-known c.args.self.now (pair_of c.args.target) c.in-Some.known c.requires c.in-Some.ensures

pub returns-then-not-is_bound : goal.returns-then-not-is_bound
returns-then-not-is_bound c =
    let s = c.args.self.now in
    let t = pair_of c.args.target in
    let none = none_shown (pool_of s) (name_of (bindings_in s) t) c.in_default.ensures in
    bound_entered s c.enter_root.new.self t c.in_ok-root.root t.1 c.requires none
    (taken-root (bindings_in s) t c.requires.lawful none c.if-not-is_bound.ensures) c.in_ok-root.ensures

pub returns-in_default-2 : goal.returns-in_default-2
returns-in_default-2 c =
    let s = c.args.self.now in
    let t = pair_of c.args.target in
    let none = none_shown (pool_of s) (name_of (bindings_in s) t) c.in_default.ensures in
    step-none (bindings_in s) t c.requires.lawful
    (taken_alias (bindings_in s) t c.requires.lawful none c.if-not-is_bound.ensures ∙ ap (λ k. free_from k (bindings_in s) (next_name t.1)) (as_many s) ∙ subst (FreeAlias (bindings_in s) t.1 (length (vec_items s.entries))) c.in_default-2.is c.in_ok-alias.ensures)

pub returns : goal.returns
returns c =
    let s = c.args.self.now in
    let t = pair_of c.args.target in
    let none = none_shown (pool_of s) (name_of (bindings_in s) t) c.in_default.ensures in
    bound_entered s c.enter_alias.new.self t c.in_ok-name.name (vec_items c.in-Some-2.alias.name) c.requires none
    (taken_alias (bindings_in s) t c.requires.lawful none c.if-not-is_bound.ensures ∙ ap (λ k. free_from k (bindings_in s) (next_name t.1)) (as_many s) ∙ (subst (FreeAlias (bindings_in s) t.1 (length (vec_items s.entries))) c.in-Some-2.is c.in_ok-alias.ensures).0) c.in_ok-name.ensures
