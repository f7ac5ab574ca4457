use Rattle.std.proofs.Common.{length}
use Rattle.lf_meta.proofs.put_level.+put_levels.Given as goal

abbrev pub decreases-put_levels : goal.decreases-put_levels
decreases-put_levels l = length l.levels.now
