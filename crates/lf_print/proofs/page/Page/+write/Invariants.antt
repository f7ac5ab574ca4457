use Rattle.std.proofs.Common.{length}
use Rattle.lf_print.proofs.page.Page.+write.Given as goal

abbrev pub decreases-write : goal.decreases-write
decreases-write l = length l.text.now
