use Rattle.std.proofs.Common.{length}
use Rattle.lf_recursor.proofs.telescope.+pis_over.Given as goal

abbrev pub decreases-pis_over : goal.decreases-pis_over
decreases-pis_over l = length l.locals.now
