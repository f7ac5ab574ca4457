use Rattle.std.proofs.Common.{length}
use Rattle.lf_part.proofs.identifiers.+local_from.Given as goal

abbrev pub decreases-local_from : goal.decreases-local_from
decreases-local_from l = length l.names.now
