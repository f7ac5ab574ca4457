use Rattle.std.proofs.Common.{length}
use Rattle.lf_env.proofs.layers.+placed_in.Given as goal

abbrev pub decreases-placed_in : goal.decreases-placed_in
decreases-placed_in l = length l.layers.now
