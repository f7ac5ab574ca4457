use Rattle.std.proofs.Common.{length}
use Rattle.lf_unify.proofs.levels.+unify_levels.Given as goal

abbrev pub decreases-unify_levels : goal.decreases-unify_levels
decreases-unify_levels l = length l.ls.now
