use Rattle.std.proofs.Common.{length}
use Rattle.lf_env.proofs.layers.+lasting.Given as goal

abbrev pub decreases-lasting : goal.decreases-lasting
decreases-lasting l = length l.sizes.now
