use Rattle.std.proofs.Common.{length}
use Rattle.lf_case_equation.proofs.fields.+push_hypotheses.Given as goal

abbrev pub decreases-push_hypotheses : goal.decreases-push_hypotheses
decreases-push_hypotheses l = length l.locals.now
