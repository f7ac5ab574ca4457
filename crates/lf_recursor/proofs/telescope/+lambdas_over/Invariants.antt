use Rattle.std.proofs.Common.{length}
use Rattle.lf_recursor.proofs.telescope.+lambdas_over.Given as goal

abbrev pub decreases-lambdas_over : goal.decreases-lambdas_over
decreases-lambdas_over l = length l.locals.now
