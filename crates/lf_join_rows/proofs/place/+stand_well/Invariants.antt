use Rattle.std.proofs.Common.{length}
use Rattle.lf_join_rows.proofs.place.+stand_well.Given as goal

abbrev pub decreases-stand_well : goal.decreases-stand_well
decreases-stand_well l = length l.messages.now
