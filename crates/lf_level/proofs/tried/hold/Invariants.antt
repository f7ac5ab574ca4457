use Rattle.std.proofs.Common.{ℕ, ◌<◌, get_or}
use Rattle.lf_level.specs.Lanes.{Holds}
use Rattle.lf_level.proofs.tried.hold.Given as goal

abbrev pub invariant-loop-lane : goal.invariant-loop-lane
invariant-loop-lane l = (k : ℕ) → k < l.lane → Holds l.both (get_or l.left k 0) (get_or l.right k 0)
