use Rattle.std.proofs.Common.{length}
use Rattle.lf_match.proofs.minors.+push_minor_for.Given as goal

abbrev pub decreases-push_minor_for : goal.decreases-push_minor_for
decreases-push_minor_for l = length l.minors.now
