use Rattle.std.proofs.Common.{length}
use Rattle.lf_cases.proofs.target.+distinct_variables.Given as goal

abbrev pub decreases-distinct_variables : goal.decreases-distinct_variables
decreases-distinct_variables l = length l.terms.now
