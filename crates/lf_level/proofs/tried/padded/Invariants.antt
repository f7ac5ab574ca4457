use Rattle.std.proofs.Common.{◌≡◌, ℕ, ◌<◌, length, get_or, []}
use Rattle.lf_level.specs.Lanes.{IsSmall}
use Rattle.lf_level.proofs.tried.padded.Given as goal

abbrev pub invariant-loop-lane : goal.invariant-loop-lane
invariant-loop-lane l = (length l.all ≡ 64) × ((k : ℕ) → k < l.lane → get_or l.all k [] ≡ get_or l.trials k []) ×
    ((k : ℕ) → k < 64 → IsSmall (get_or l.all k []))
