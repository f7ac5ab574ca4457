use Rattle.std.proofs.Common.{length}
use Rattle.lf_meta.proofs.assigned.+levels_have_assigned.Given as goal

abbrev pub decreases-levels_have_assigned : goal.decreases-levels_have_assigned
decreases-levels_have_assigned l = length l.levels.now
