use Rattle.std.proofs.Common.{length}
use Rattle.lf_subst.proofs.levels.+are_levels_within.Given as goal

abbrev pub decreases-are_levels_within : goal.decreases-are_levels_within
decreases-are_levels_within l = length l.levels.now
