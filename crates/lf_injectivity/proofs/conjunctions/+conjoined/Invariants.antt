use Rattle.std.proofs.Common.{length}
use Rattle.lf_injectivity.proofs.conjunctions.+conjoined.Given as goal

abbrev pub decreases-conjoined : goal.decreases-conjoined
decreases-conjoined l = length l.of.now
