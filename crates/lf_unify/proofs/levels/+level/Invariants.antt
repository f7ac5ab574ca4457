-- The parts of a level are one nesting deeper.
use Rattle.std.proofs.Common.{◌+◌, ◌*◌}
use Rattle.lf_unify.proofs.levels.+level.Given as goal

abbrev pub decreases-unify_level_within : goal.decreases-unify_level_within
decreases-unify_level_within l = 8 * l.cx.left

abbrev pub decreases-by_both : goal.decreases-by_both
decreases-by_both l = 8 * l.cx.left + 1

abbrev pub decreases-by_level_parts : goal.decreases-by_level_parts
decreases-by_level_parts l = 8 * l.cx.left + 2

abbrev pub decreases-by_level_form : goal.decreases-by_level_form
decreases-by_level_form l = 8 * l.cx.left + 3

abbrev pub decreases-level_rule : goal.decreases-level_rule
decreases-level_rule l = 8 * l.cx.left + 4
