use Rattle.std.proofs.Common.{length}
use Rattle.lf_subst.proofs.levels.+spend_levels.Given as goal

abbrev pub decreases-spend_levels : goal.decreases-spend_levels
decreases-spend_levels l = length l.levels.now
