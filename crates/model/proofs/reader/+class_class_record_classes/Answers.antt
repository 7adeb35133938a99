use Rattle.std.proofs.Common.{rules, refl, arith}
use Rattle.model.specs.Audit.{audit_class}
use Rattle.model.proofs.Going.{goes_by, class_at-zero, class-opened}
use Rattle.model.proofs.reader.+class_class_record_classes.Goals as goal

pub Reader::class-returns-then-depth-eq0 : goal.Reader::class-returns-then-depth-eq0
Reader::class-returns-then-depth-eq0 t c =
    class_at-zero c.args.self.now.at.end c.args.depth c.place-place.result _ _ c.if-depth-eq0.true c.place-place.ensures

pub Reader::class-returns : goal.Reader::class-returns
Reader::class-returns t c =
    goes_by _ c.args.self.now _ c.class_record.result _ _ (class-opened c.args.self.now.at.end c.args.depth c.args.self.now.at.rest.now c.args.self.now.found (λ z. omega arith)) refl c.class_record.ensures

pub Reader::classes-returns : goal.Reader::classes-returns
Reader::classes-returns t c = c.each.ensures (λ n. audit_class n c.args.depth) (λ x y r p. search rules)
