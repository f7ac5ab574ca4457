use Rattle.std.proofs.Common.{length}
use Rattle.lf_part.proofs.reading.+instantiated_behind.Given as goal

abbrev pub decreases-instantiated_behind : goal.decreases-instantiated_behind
decreases-instantiated_behind l = length l.terms.now
