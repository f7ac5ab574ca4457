use Rattle.std.proofs.Common.{length}
use Rattle.lf_recursor.proofs.telescope.+push_of_kind.Given as goal

abbrev pub decreases-push_of_kind : goal.decreases-push_of_kind
decreases-push_of_kind l = length l.locals.now
