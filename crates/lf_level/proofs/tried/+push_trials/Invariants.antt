use Rattle.std.proofs.Common.{length}
use Rattle.lf_level.proofs.tried.+push_trials.Given as goal

abbrev pub decreases-push_trials : goal.decreases-push_trials
decreases-push_trials l = length l.rest.now
