use Rattle.std.proofs.Common.{rules, refl, arith}
use Rattle.walk.proofs.Repeating.{declares_made, declares_each, repeats_none, repeats_more}
use Rattle.walk.proofs.collector.Collector.own.Goals as goal

pub loop-preserved : goal.loop-preserved
loop-preserved g c = λ last rest. c.loop.invariant last (repeats_more _ c.count-n.result c.loop.counter c.loop.self _ last (omega arith) (declares_made g.F.Fn c.args.item 64 _ _ _ c.in_ok-one.one _ _ (search rules) c.item.ensures refl refl (search rules)) rest)

pub returns : goal.returns
returns g c =
    declares_each g.F.Fn c.args.item c.args.stands c.count-n.result c.args.self.now _ _ c.count-n.ensures.is c.count-n.ensures.rest c.count-n.ensures.end refl (c.loop.invariant _ (repeats_none _ c.count-n.result c.loop.counter c.loop.self c.loop-test.false))
