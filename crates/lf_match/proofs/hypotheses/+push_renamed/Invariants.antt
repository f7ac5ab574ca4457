use Rattle.std.proofs.Common.{length}
use Rattle.lf_match.proofs.hypotheses.+push_renamed.Given as goal

abbrev pub decreases-push_renamed : goal.decreases-push_renamed
decreases-push_renamed l = length l.locals.now
