use Rattle.std.proofs.Common.{◌≡◌, ℕ, ◌<◌, length, get_or}
use Rattle.lf_core.specs.Level.{impredicative_max}
use Rattle.lf_level.proofs.lanes.imax_of.Given as goal

abbrev pub invariant-loop-lane : goal.invariant-loop-lane
invariant-loop-lane l = (length l.all ≡ 64) × ((k : ℕ) → k < l.lane → get_or l.all k 0 ≡ impredicative_max (get_or l.left k 0) (get_or l.right k 0))
