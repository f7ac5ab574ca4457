use Rattle.std.proofs.Common.{length}
use Rattle.lf_fields.proofs.growing.+definitions.Given as goal

abbrev pub decreases-definitions : goal.decreases-definitions
decreases-definitions g l = length l.fields.now
