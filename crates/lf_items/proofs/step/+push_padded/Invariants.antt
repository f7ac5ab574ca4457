use Rattle.std.proofs.Common.{length}
use Rattle.lf_items.proofs.step.+push_padded.Given as goal

abbrev pub decreases-push_padded : goal.decreases-push_padded
decreases-push_padded l = length l.proofs.now
