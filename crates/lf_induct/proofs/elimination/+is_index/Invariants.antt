use Rattle.std.proofs.Common.{length}
use Rattle.lf_induct.proofs.elimination.+is_index.Given as goal

abbrev pub decreases-is_index : goal.decreases-is_index
decreases-is_index l = length l.indices.now
