use Rattle.std.proofs.Common.{length}
use Rattle.lf_recursor.proofs.recursor.+push_recursive_calls.Given as goal

abbrev pub decreases-push_recursive_calls : goal.decreases-push_recursive_calls
decreases-push_recursive_calls l = length l.fields.now
