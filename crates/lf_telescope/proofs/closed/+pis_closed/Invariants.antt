use Rattle.std.proofs.Common.{length}
use Rattle.lf_telescope.proofs.closed.+pis_closed.Given as goal

abbrev pub decreases-pis_closed : goal.decreases-pis_closed
decreases-pis_closed l = length l.locals.now
