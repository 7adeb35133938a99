use Rattle.std.proofs.Common.{take, drop, IfSome, sym, ap, ◌∙◌, subst}
use Rattle.binding.specs.Sound.{pool_of, bindings_in, Reached, Started}
use Rattle.binding.proofs.Indexes.{reached-root}
use Rattle.binding.proofs.binder.Binder.start.Goals as goal

pub returns-in_ok-name-in-Some : goal.returns-in_ok-name-in-Some
returns-in_ok-name-in-Some c =
    let s = c.args.self.now in
    let l = c.in-Some.last.now in
    let at = c.in-Some.ensures.value in
    let started : Started (pool_of s) (bindings_in s) c.args.root.now l = subst (λ o. IfSome o (Started (pool_of s) (bindings_in s) c.args.root.now)) (sym at) (c.requires.indexed.starts c.args.root) in
    subst (λ w. Reached (bindings_in s) c.args.root.now w l.number)
    (sym (c.in_ok-name-in-Some.ensures.items ∙ c.part_of.ensures ∙ ap (λ pool. take l.name.len (drop l.name.start pool)) c.as_slice.ensures.value))
    started.reached

pub returns-in_ok-name-in-None : goal.returns-in_ok-name-in-None
returns-in_ok-name-in-None c =
    subst (λ w. Reached (bindings_in c.args.self.now) c.args.root.now w 0) (sym c.in_ok-name-in-None.ensures.items) (reached-root (bindings_in c.args.self.now) c.args.root.now c.requires.held)
