use Rattle.std.proofs.Common.{rules, refl, arith}
use Rattle.model.specs.Steps.{gathered}
use Rattle.model.specs.Audit.{audit_module}
use Rattle.model.proofs.Going.{gathers_by, module_at-zero, module-opened, sofar_more}
use Rattle.model.proofs.Settling.{settled}
use Rattle.model.proofs.modules.Lister.+module_module_record_modules.Goals as goal

pub module-returns-then-depth-eq0 : goal.module-returns-then-depth-eq0
module-returns-then-depth-eq0 t c =
    module_at-zero c.args.self.now.reader.at.end c.args.depth c.place-place.result _ _ _ c.if-depth-eq0.true c.place-place.ensures

pub module-returns : goal.module-returns
module-returns t c =
    gathers_by c.args.self.now c.args.self.now c.module_record.new.self c.module_record.result _ _ (module-opened c.args.self.now.reader.at.end c.args.depth c.args.holder c.args.self.now.reader.at.rest.now (gathered c.args.self.now.reader.found c.args.self.now.list) (λ z. omega arith)) refl c.module_record.ensures

pub modules-loop-preserved : goal.modules-loop-preserved
modules-loop-preserved t c =
    sofar_more (λ n. audit_module n c.args.depth c.args.holder) c.in_ok-n.n c.loop.counter _ _ _ _ _ _ (omega arith) c.loop.invariant c.in_ok-module.ensures

pub module_record-returns : goal.module_record-returns
module_record-returns t c =
    let s = settled c.text.new.self.end c.args.depth c.place-place.result c.place-own.result c.next-number.result c.args.holder c.in_ok-name.name.now c.has.result c.text.new.self c.modules.new.self.reader.at c.name.new.self c.modules.new.self.reader.found c.args.self.now.list c.open.new.self c.modules.new.self.list c.settle.new.self c.next-number.ensures c.in_ok-open.ensures c.in_ok-modules.ensures (λ x l. c.settle.ensures x) in
    search rules
