use Rattle.std.proofs.Common.{length}
use Rattle.lf_cases.proofs.induction.+abstracted_over.Given as goal

abbrev pub decreases-abstracted_over : goal.decreases-abstracted_over
decreases-abstracted_over l = length l.indices.now
