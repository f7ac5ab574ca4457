use Rattle.std.proofs.Common.{length}
use Rattle.lf_match.proofs.minors.+push_minors.Given as goal

abbrev pub decreases-push_minors : goal.decreases-push_minors
decreases-push_minors l = length l.cases.now
