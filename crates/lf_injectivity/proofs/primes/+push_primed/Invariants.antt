use Rattle.std.proofs.Common.{length}
use Rattle.lf_injectivity.proofs.primes.+push_primed.Given as goal

abbrev pub decreases-push_primed : goal.decreases-push_primed
decreases-push_primed l = length l.words.now
