use Rattle.std.proofs.Common.{length}
use Rattle.lf_induct.proofs.elimination.+are_proofs_or_indices.Given as goal

abbrev pub decreases-are_proofs_or_indices : goal.decreases-are_proofs_or_indices
decreases-are_proofs_or_indices l = length l.levels.now
