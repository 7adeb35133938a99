use Rattle.std.proofs.Common.{◌≡◌, is_some, arith, Some, None, vec_items, ap, ◌∙◌, subst}
use Rattle.naming.specs.Next.{next_name}
use Rattle.binding.specs.Binding.{find}
use Rattle.binding.specs.Sound.{bindings_in, free_from, Comes}
use Rattle.binding.proofs.Indexes.{next-of, seeks_start, seeks_end, seeks_none, seeks_free, seeks_bound}
use Rattle.binding.proofs.binder.Binder.free_alias.Goals as goal

pub loop-n-init : goal.loop-n-init
loop-n-init c = seeks_start (bindings_in c.args.self.now) c.args.root.now c.len-count.result _ _ c.in_ok-name.ensures

pub returns-in_default : goal.returns-in_default
returns-in_default c =
    subst (λ k. free_from k (bindings_in c.args.self.now) (next_name c.args.root.now) ≡ None) (c.len-count.ensures ∙ c.args.self.now.entries.ok.0)
    (seeks_none (bindings_in c.args.self.now) c.args.root.now c.len-count.result c.loop-n.n (vec_items c.loop-n.name) c.loop-n.invariant c.loop-n-test.true
    (next-of _ _ _ _ c.as_slice.ensures.value c.in_ok-next.ensures c.in_default.is))

pub returns-then-not-is_bound : goal.returns-then-not-is_bound
returns-then-not-is_bound c =
    let (free, comes) =
    seeks_free (bindings_in c.args.self.now) c.args.root.now c.len-count.result c.loop-n.n (vec_items c.loop-n.name) c.loop-n.invariant (vec_items c.in-Some.next) c.loop-n-test.true
    (next-of _ _ _ _ c.as_slice.ensures.value c.in_ok-next.ensures c.in-Some.is)
    (c.if-not-is_bound.ensures ∙ ap (λ w. is_some (find (bindings_in c.args.self.now) w)) c.as_slice-in-loop-n.ensures.value) in (
      subst (λ k. free_from k (bindings_in c.args.self.now) (next_name c.args.root.now) ≡ Some (vec_items c.in-Some.next)) (c.len-count.ensures ∙ c.args.self.now.entries.ok.0) free,
      subst (λ k. Comes (bindings_in c.args.self.now) c.args.root.now (vec_items c.in-Some.next) k) (omega arith) comes,
    )

pub loop-n-preserved : goal.loop-n-preserved
loop-n-preserved c =
    seeks_bound (bindings_in c.args.self.now) c.args.root.now c.len-count.result c.loop-n.n (vec_items c.loop-n.name) c.loop-n.invariant (vec_items c.in-Some.next) c.loop-n-test.true
    (next-of _ _ _ _ c.as_slice.ensures.value c.in_ok-next.ensures c.in-Some.is)
    (c.if-not-is_bound.ensures ∙ ap (λ w. is_some (find (bindings_in c.args.self.now) w)) c.as_slice-in-loop-n.ensures.value)

pub returns : goal.returns
returns c =
    subst (λ k. free_from k (bindings_in c.args.self.now) (next_name c.args.root.now) ≡ None) (c.len-count.ensures ∙ c.args.self.now.entries.ok.0)
    (seeks_end (bindings_in c.args.self.now) c.args.root.now c.len-count.result c.loop-n.n (vec_items c.loop-n.name) c.loop-n.invariant c.loop-n-test.false)
