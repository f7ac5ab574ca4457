use Rattle.std.proofs.Common.{length}
use Rattle.lf_unify.proofs.pattern.+abstraction.Given as goal

abbrev pub decreases-abstraction : goal.decreases-abstraction
decreases-abstraction l = length l.variables.now
