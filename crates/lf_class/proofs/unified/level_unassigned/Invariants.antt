use Rattle.std.proofs.Common.{◌≡◌, ◌-◌}
use Rattle.lf_elaboration.specs.Metavariables.{level_count, level_unassigned, level_unassigned_from}
use Rattle.lf_class.proofs.unified.level_unassigned.Given as goal

abbrev pub invariant-numbers : goal.invariant-numbers
invariant-numbers l = level_unassigned_from l.metas l.k (level_count l.metas - l.k) ≡ level_unassigned l.metas 0

abbrev pub decreases-numbers : goal.decreases-numbers
decreases-numbers l = l.count - l.k
