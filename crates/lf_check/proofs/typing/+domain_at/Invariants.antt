use Rattle.std.proofs.Common.{length}
use Rattle.lf_check.proofs.typing.+domain_at.Given as goal

abbrev pub decreases-domain_at : goal.decreases-domain_at
decreases-domain_at l = length l.arguments.now
