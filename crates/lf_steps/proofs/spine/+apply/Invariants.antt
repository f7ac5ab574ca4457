use Rattle.std.proofs.Common.{length}
use Rattle.lf_steps.proofs.spine.+apply.Given as goal

abbrev pub decreases-apply : goal.decreases-apply
decreases-apply l = length l.arguments.now
