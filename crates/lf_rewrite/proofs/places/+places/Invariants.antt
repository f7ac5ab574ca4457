-- A term outweighs its parts, and then what is asked of it.
use Rattle.std.proofs.Common.{◌+◌, ◌*◌}
use Rattle.lf_core.specs.Size.{node_count}
use Rattle.lf_rewrite.proofs.places.+places.Given as goal

abbrev pub decreases-push_spine : goal.decreases-push_spine
decreases-push_spine l = 2 * node_count l.term.now

abbrev pub decreases-push_places : goal.decreases-push_places
decreases-push_places l = 2 * node_count l.term.now + 1
