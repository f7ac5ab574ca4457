use Rattle.std.proofs.Common.{length}
use Rattle.lf_part.proofs.levels.+position_from.Given as goal

abbrev pub decreases-position_from : goal.decreases-position_from
decreases-position_from l = length l.names.now
