use Rattle.std.proofs.Common.{length}
use Rattle.lf_equivalence.proofs.equations.+push_lefts.Given as goal

abbrev pub decreases-push_lefts : goal.decreases-push_lefts
decreases-push_lefts l = length l.of.now
