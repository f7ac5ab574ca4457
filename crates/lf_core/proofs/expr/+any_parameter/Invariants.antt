use Rattle.std.proofs.Common.{length}
use Rattle.lf_core.proofs.expr.+any_parameter.Given as goal

abbrev pub decreases-any_parameter : goal.decreases-any_parameter
decreases-any_parameter l = length l.levels.now
