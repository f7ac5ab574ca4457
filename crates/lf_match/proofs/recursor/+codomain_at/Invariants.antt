use Rattle.std.proofs.Common.{length}
use Rattle.lf_match.proofs.recursor.+codomain_at.Given as goal

abbrev pub decreases-codomain_at : goal.decreases-codomain_at
decreases-codomain_at l = length l.arguments.now
