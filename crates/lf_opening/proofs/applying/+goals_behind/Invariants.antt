use Rattle.std.proofs.Common.{length}
use Rattle.lf_opening.proofs.applying.+goals_behind.Given as goal

abbrev pub decreases-goals_behind : goal.decreases-goals_behind
decreases-goals_behind l = length l.given.now
