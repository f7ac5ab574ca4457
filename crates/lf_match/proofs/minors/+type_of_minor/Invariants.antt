use Rattle.std.proofs.Common.{length}
use Rattle.lf_match.proofs.minors.+type_of_minor.Given as goal

abbrev pub decreases-type_of_minor : goal.decreases-type_of_minor
decreases-type_of_minor l = length l.constructors.now
