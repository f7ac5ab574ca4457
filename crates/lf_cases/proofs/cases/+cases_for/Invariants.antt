use Rattle.std.proofs.Common.{length}
use Rattle.lf_cases.proofs.cases.+cases_for.Given as goal

abbrev pub decreases-cases_for : goal.decreases-cases_for
decreases-cases_for l = length l.constructors.now
