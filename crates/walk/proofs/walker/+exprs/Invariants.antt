use Rattle.std.proofs.Common.{◌+◌, ◌*◌}
use Rattle.walk.proofs.walker.+exprs.Given as goal

abbrev pub decreases-Walker::walk_expr : goal.decreases-Walker::walk_expr
decreases-Walker::walk_expr l = 4 * l.depth

abbrev pub decreases-Walker::walk_list-times : goal.decreases-Walker::walk_list-times
decreases-Walker::walk_list-times l = 4 * l.depth + 1

abbrev pub decreases-Walker::walk_list : goal.decreases-Walker::walk_list
decreases-Walker::walk_list l = 4 * l.depth + 2

abbrev pub decreases-Walker::walk_parts : goal.decreases-Walker::walk_parts
decreases-Walker::walk_parts l = 4 * l.depth + 3
