use Rattle.std.proofs.Common.{length}
use Rattle.lf_equivalence.proofs.equations.+push_rights.Given as goal

abbrev pub decreases-push_rights : goal.decreases-push_rights
decreases-push_rights l = length l.of.now
