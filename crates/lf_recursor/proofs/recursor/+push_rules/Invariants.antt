use Rattle.std.proofs.Common.{length}
use Rattle.lf_recursor.proofs.recursor.+push_rules.Given as goal

abbrev pub decreases-push_rules : goal.decreases-push_rules
decreases-push_rules l = length l.cases.now
