use Rattle.std.proofs.Common.{length}
use Rattle.lf_match.proofs.coverage.+none_missing.Given as goal

abbrev pub decreases-none_missing : goal.decreases-none_missing
decreases-none_missing l = length l.constructors.now
