use Rattle.std.proofs.Common.{length}
use Rattle.lf_core.proofs.expr.+any_metavariable.Given as goal

abbrev pub decreases-any_metavariable : goal.decreases-any_metavariable
decreases-any_metavariable l = length l.levels.now
