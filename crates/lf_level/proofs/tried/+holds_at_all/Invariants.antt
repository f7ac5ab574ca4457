use Rattle.std.proofs.Common.{length}
use Rattle.lf_level.proofs.tried.+holds_at_all.Given as goal

abbrev pub decreases-holds_at_all : goal.decreases-holds_at_all
decreases-holds_at_all l = length l.trials.now
