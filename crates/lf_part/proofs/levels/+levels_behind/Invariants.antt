use Rattle.std.proofs.Common.{length}
use Rattle.lf_part.proofs.levels.+levels_behind.Given as goal

abbrev pub decreases-levels_behind : goal.decreases-levels_behind
decreases-levels_behind l = length l.levels.now
