use Rattle.std.proofs.Common.{length}
use Rattle.lf_case_equation.proofs.case.+push_locals.Given as goal

abbrev pub decreases-push_locals : goal.decreases-push_locals
decreases-push_locals l = length l.locals.now
