use Rattle.std.proofs.Common.{length}
use Rattle.lf_part.proofs.levels.+fresh_behind.Given as goal

abbrev pub decreases-fresh_behind : goal.decreases-fresh_behind
decreases-fresh_behind g l = length l.names.now
