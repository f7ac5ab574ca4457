use Rattle.std.proofs.Common.{length}
use Rattle.lf_match.proofs.hypotheses.+of_type.Given as goal

abbrev pub decreases-of_type : goal.decreases-of_type
decreases-of_type l = length l.locals.now
