use Rattle.std.proofs.Common.{length}
use Rattle.lf_cases.proofs.target.+speaks_of_some.Given as goal

abbrev pub decreases-speaks_of_some : goal.decreases-speaks_of_some
decreases-speaks_of_some l = length l.numbers.now
