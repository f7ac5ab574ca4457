use Rattle.std.proofs.Common.{◌≡◌, ℕ, ◌<◌, length, get_or, []}
use Rattle.lf_level.proofs.lanes.column.Given as goal

abbrev pub invariant-loop-lane : goal.invariant-loop-lane
invariant-loop-lane l = (length l.all ≡ 64) × ((k : ℕ) → k < l.lane → get_or l.all k 0 ≡ get_or (get_or l.trials k []) l.place 0)
