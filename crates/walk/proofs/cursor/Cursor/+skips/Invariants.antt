use Rattle.std.proofs.Common.{◌≡◌, ◌+◌, ◌-◌, ◌*◌}
use Rattle.walk.specs.Puts.{skip, skips}
use Rattle.walk.proofs.cursor.Cursor.+skips.Given as goal

abbrev pub decreases-skip_expr : goal.decreases-skip_expr
decreases-skip_expr l = 3 * l.depth

abbrev pub decreases-skip_list : goal.decreases-skip_list
decreases-skip_list l = 3 * l.depth + 1

abbrev pub decreases-skip_parts : goal.decreases-skip_parts
decreases-skip_parts l = 3 * l.depth + 2

-- what is left to pass leads where all of it leads
abbrev pub invariant-skip_list-loop : goal.invariant-skip_list-loop
invariant-skip_list-loop l =
    (l.self.end ≡ l.initial.self.end)
    × (skips (skip l.depth) (l.n - l.counter) l.self.rest.now ≡ skips (skip l.depth) l.n l.initial.self.rest.now)
