use Rattle.std.proofs.Common.{◌≡◌, ℕ, ◌+◌, ◌-◌, length}
use Rattle.lf_meta.specs.Kept.{stands_at}
use Rattle.lf_meta.proofs.table.reach.Given as goal

abbrev pub invariant-rows : goal.invariant-rows
invariant-rows g l = (k : ℕ) → stands_at l.rows k ≡ stands_at l.initial.rows k

abbrev pub decreases-rows : goal.decreases-rows
decreases-rows g l = (l.number + 1) - length l.rows
