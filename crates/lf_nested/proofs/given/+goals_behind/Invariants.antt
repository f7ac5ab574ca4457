use Rattle.std.proofs.Common.{length}
use Rattle.lf_nested.proofs.given.+goals_behind.Given as goal

abbrev pub decreases-goals_behind : goal.decreases-goals_behind
decreases-goals_behind l = length l.given.now
