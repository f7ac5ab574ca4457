use Rattle.std.proofs.Common.{length}
use Rattle.lf_join_rows.proofs.values.+found.Given as goal

abbrev pub decreases-found : goal.decreases-found
decreases-found l = length l.reals.now
