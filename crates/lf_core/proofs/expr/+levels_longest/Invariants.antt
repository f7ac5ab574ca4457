use Rattle.std.proofs.Common.{length}
use Rattle.lf_core.proofs.expr.+levels_longest.Given as goal

abbrev pub decreases-levels_longest : goal.decreases-levels_longest
decreases-levels_longest l = length l.levels.now
