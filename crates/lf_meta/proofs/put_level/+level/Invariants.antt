-- Each call but the first of a node's parts is one deeper.
use Rattle.std.proofs.Common.{◌+◌, ◌*◌}
use Rattle.lf_meta.proofs.put_level.+level.Given as goal

abbrev pub decreases-put_assigned : goal.decreases-put_assigned
decreases-put_assigned l = 4 * l.reach.nesting

abbrev pub decreases-put_level : goal.decreases-put_level
decreases-put_level l = 4 * l.reach.nesting + 1

abbrev pub decreases-put_both : goal.decreases-put_both
decreases-put_both l = 4 * l.reach.nesting + 2
