use Rattle.binding.proofs.Declaring.{only-declared, declares-none, declares-more, declares-all}
use Rattle.binding.proofs.bind.declare.Goals as goal

pub loop-d-init : goal.loop-d-init
loop-d-init c = declares-none c.args.own.now c.new-binder.result c.new-binder.ensures.none c.new-binder.ensures.indexed

pub declare-requires : goal.declare-requires
declare-requires c = only-declared c.args.own.now _ c.loop-d.binder c.loop-d.invariant

pub loop-d-preserved : goal.loop-d-preserved
loop-d-preserved c =
    declares-more c.args.own.now c.args.declared.now c.loop-d.d-index _ c.loop-d.binder c.declare.new.self c.loop-d-test.true c.loop-d.invariant c.in_ok-declare.ensures

pub returns : goal.returns
returns c = declares-all c.args.own.now c.args.declared.now c.loop-d.d-index c.loop-d.binder c.loop-d-test.false c.loop-d.invariant
