use Rattle.std.proofs.Common.{◌≡◌, ◌-◌, ◌≤◌}
use Rattle.lf_resolution.specs.Attempt.{levels_made}
use Rattle.lf_class.proofs.attempt.levels_made.Given as goal

abbrev pub invariant-levels : goal.invariant-levels
invariant-levels l = record { within : l.made ≤ l.count; made : l.metas ≡ levels_made l.made }

abbrev pub decreases-levels : goal.decreases-levels
decreases-levels l = l.count - l.made
