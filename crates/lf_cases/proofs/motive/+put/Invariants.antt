-- A term outweighs its parts, and then what is asked of it.
use Rattle.std.proofs.Common.{◌+◌, ◌*◌}
use Rattle.lf_core.specs.Size.{node_count}
use Rattle.lf_cases.proofs.motive.+put.Given as goal

abbrev pub decreases-put_applied : goal.decreases-put_applied
decreases-put_applied l = 8 * (node_count l.function.now + node_count l.argument.now) + 5

abbrev pub decreases-put_loose : goal.decreases-put_loose
decreases-put_loose l = 8 * node_count l.term.now + 4

abbrev pub decreases-put_spine : goal.decreases-put_spine
decreases-put_spine l = 8 * (node_count l.function.now + node_count l.argument.now) + 5

abbrev pub decreases-put_function : goal.decreases-put_function
decreases-put_function l = 8 * node_count l.term.now + 4

abbrev pub decreases-put_application : goal.decreases-put_application
decreases-put_application l = 8 * (node_count l.function.now + node_count l.argument.now) + 6

abbrev pub decreases-put : goal.decreases-put
decreases-put l = 8 * node_count l.term.now + 3

abbrev pub decreases-put_pair : goal.decreases-put_pair
decreases-put_pair l = 8 * (node_count l.left.now + node_count l.right.now) + 4

abbrev pub decreases-put_let : goal.decreases-put_let
decreases-put_let l = 8 * (node_count l.ty.now + node_count l.value.now + node_count l.body.now) + 5
