use Rattle.std.proofs.Common.{length}
use Rattle.lf_injectivity.proofs.proving.+proofs_back.Given as goal

abbrev pub decreases-proofs_back : goal.decreases-proofs_back
decreases-proofs_back l = length l.of.now
