use Rattle.std.proofs.Common.{length}
use Rattle.lf_level.proofs.lanes.+place.Given as goal

abbrev pub decreases-place : goal.decreases-place
decreases-place l = length l.names.now
