use Rattle.std.proofs.Common.{length}
use Rattle.lf_match.proofs.coverage.+none_behind.Given as goal

abbrev pub decreases-none_behind : goal.decreases-none_behind
decreases-none_behind l = length l.cases.now
