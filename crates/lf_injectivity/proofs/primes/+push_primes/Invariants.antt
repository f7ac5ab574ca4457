use Rattle.std.proofs.Common.{length}
use Rattle.lf_injectivity.proofs.primes.+push_primes.Given as goal

abbrev pub decreases-push_primes : goal.decreases-push_primes
decreases-push_primes l = length l.locals.now
