use Rattle.std.proofs.Common.{length}
use Rattle.lf_recursor.proofs.family.+push_cases.Given as goal

abbrev pub decreases-push_cases : goal.decreases-push_cases
decreases-push_cases l = length l.ctors.now
