use Rattle.std.proofs.Common.{length}
use Rattle.lf_case_equation.proofs.putting.+put_onto.Given as goal

abbrev pub decreases-put_onto : goal.decreases-put_onto
decreases-put_onto l = length l.arguments.now
