use Rattle.std.proofs.Common.{length}
use Rattle.lf_telescope.proofs.locals.+push_implicit.Given as goal

abbrev pub decreases-push_implicit : goal.decreases-push_implicit
decreases-push_implicit l = length l.locals.now
