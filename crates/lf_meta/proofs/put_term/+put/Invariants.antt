-- Each call of a part is one deeper.
use Rattle.std.proofs.Common.{◌+◌, ◌*◌}
use Rattle.lf_meta.proofs.put_term.+put.Given as goal

abbrev pub decreases-put_assigned : goal.decreases-put_assigned
decreases-put_assigned l = 8 * l.reach.nesting

abbrev pub decreases-put_for_variable : goal.decreases-put_for_variable
decreases-put_for_variable l = 8 * l.reach.nesting

abbrev pub decreases-put_argument : goal.decreases-put_argument
decreases-put_argument l = 8 * l.reach.nesting

abbrev pub decreases-reduce : goal.decreases-reduce
decreases-reduce l = 8 * l.reach.nesting + 1

abbrev pub decreases-put_loose : goal.decreases-put_loose
decreases-put_loose l = 8 * l.reach.nesting + 2

abbrev pub decreases-put_spine : goal.decreases-put_spine
decreases-put_spine l = 8 * l.reach.nesting + 2

abbrev pub decreases-put_application : goal.decreases-put_application
decreases-put_application l = 8 * l.reach.nesting + 3

abbrev pub decreases-put : goal.decreases-put
decreases-put l = 8 * l.reach.nesting + 4

abbrev pub decreases-put_pair : goal.decreases-put_pair
decreases-put_pair l = 8 * l.reach.nesting + 5

abbrev pub decreases-put_let : goal.decreases-put_let
decreases-put_let l = 8 * l.reach.nesting + 6
