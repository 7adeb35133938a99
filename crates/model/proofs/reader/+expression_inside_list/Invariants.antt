use Rattle.std.proofs.Common.{◌+◌, ◌*◌}
use Rattle.model.proofs.reader.+expression_inside_list.Given as goal

abbrev pub decreases-Reader::expression : goal.decreases-Reader::expression
decreases-Reader::expression l = 4 * l.depth

abbrev pub decreases-Reader::list-times : goal.decreases-Reader::list-times
decreases-Reader::list-times l = 4 * l.depth + 1

abbrev pub decreases-Reader::list : goal.decreases-Reader::list
decreases-Reader::list l = 4 * l.depth + 2

abbrev pub decreases-Reader::inside : goal.decreases-Reader::inside
decreases-Reader::inside l = 4 * l.depth + 3
