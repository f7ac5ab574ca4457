use Rattle.std.proofs.Common.{length}
use Rattle.lf_injectivity.proofs.terms.+push_terms.Given as goal

abbrev pub decreases-push_terms : goal.decreases-push_terms
decreases-push_terms l = length l.terms.now
