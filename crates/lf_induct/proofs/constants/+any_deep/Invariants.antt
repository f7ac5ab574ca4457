use Rattle.std.proofs.Common.{length}
use Rattle.lf_induct.proofs.constants.+any_deep.Given as goal

abbrev pub decreases-any_deep : goal.decreases-any_deep
decreases-any_deep l = length l.terms.now
