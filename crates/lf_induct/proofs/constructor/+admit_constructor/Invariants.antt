use Rattle.std.proofs.Common.{length}
use Rattle.lf_induct.proofs.constructor.+admit_constructor.Given as goal

abbrev pub decreases-admit_constructor : goal.decreases-admit_constructor
decreases-admit_constructor g l = length l.params.now
