use Rattle.std.proofs.Common.{length}
use Rattle.lf_injectivity.proofs.conjunctions.+conjunction.Given as goal

abbrev pub decreases-conjunction : goal.decreases-conjunction
decreases-conjunction l = length l.of.now
