use Rattle.std.proofs.Common.{length}
use Rattle.lf_equivalence.proofs.rests.+types_back.Given as goal

abbrev pub decreases-types_back : goal.decreases-types_back
decreases-types_back g l = length l.locals.now
