use Rattle.std.proofs.Common.{length}
use Rattle.lf_telescope.proofs.closed.+lambdas_closed.Given as goal

abbrev pub decreases-lambdas_closed : goal.decreases-lambdas_closed
decreases-lambdas_closed l = length l.locals.now
