use Rattle.std.proofs.Common.{◌+◌, ◌*◌}
use Rattle.walk.proofs.walker.+classes.Given as goal

abbrev pub decreases-Walker::walk_class : goal.decreases-Walker::walk_class
decreases-Walker::walk_class l = 4 * l.depth

abbrev pub decreases-Walker::walk_classes-each : goal.decreases-Walker::walk_classes-each
decreases-Walker::walk_classes-each l = 4 * l.depth + 1

abbrev pub decreases-Walker::walk_classes : goal.decreases-Walker::walk_classes
decreases-Walker::walk_classes l = 4 * l.depth + 2

abbrev pub decreases-Walker::walk_class_record : goal.decreases-Walker::walk_class_record
decreases-Walker::walk_class_record l = 4 * l.depth + 3
