use Rattle.std.proofs.Common.{length}
use Rattle.lf_asking.proofs.kernel.+are_named.Given as goal

abbrev pub decreases-are_named : goal.decreases-are_named
decreases-are_named l = length l.infos.now
