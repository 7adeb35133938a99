use Rattle.std.proofs.Common.{◌+◌, ◌*◌}
use Rattle.model.proofs.reader.+class_class_record_classes.Given as goal

abbrev pub decreases-Reader::class : goal.decreases-Reader::class
decreases-Reader::class l = 4 * l.depth

abbrev pub decreases-Reader::classes-each : goal.decreases-Reader::classes-each
decreases-Reader::classes-each l = 4 * l.depth + 1

abbrev pub decreases-Reader::classes : goal.decreases-Reader::classes
decreases-Reader::classes l = 4 * l.depth + 2

abbrev pub decreases-Reader::class_record : goal.decreases-Reader::class_record
decreases-Reader::class_record l = 4 * l.depth + 3
