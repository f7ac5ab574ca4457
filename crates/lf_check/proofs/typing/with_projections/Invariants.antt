use Rattle.std.proofs.Common.{◌≡◌, ◌++◌, ◌≤◌, ◌-◌}
use Rattle.lf_rules.specs.Structure.{projections}
use Rattle.lf_check.proofs.typing.with_projections.Given as goal

abbrev pub invariant-fields : goal.invariant-fields
invariant-fields l = record { items : l.more.items ≡ l.fn.all.items ++ projections l.structure l.place l.term; within : l.place ≤ l.count }

abbrev pub decreases-fields : goal.decreases-fields
decreases-fields l = l.count - l.place
