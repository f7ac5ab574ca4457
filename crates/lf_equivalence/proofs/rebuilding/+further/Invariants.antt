use Rattle.std.proofs.Common.{length}
use Rattle.lf_equivalence.proofs.rebuilding.+further.Given as goal

abbrev pub decreases-further : goal.decreases-further
decreases-further l = length l.of.now
