use Rattle.std.proofs.Common.{length}
use Rattle.lf_core.proofs.expr.+levels_count.Given as goal

abbrev pub decreases-levels_count : goal.decreases-levels_count
decreases-levels_count l = length l.levels.now
