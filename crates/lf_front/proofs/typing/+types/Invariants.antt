use Rattle.std.proofs.Common.{ℕ, ◌+◌, ◌*◌}
use Rattle.lf_front.proofs.typing.+types.Given as goal

abbrev pub decreases-type_at : goal.decreases-type_at
decreases-type_at l = 4 * l.depth

abbrev pub decreases-codomain_type : goal.decreases-codomain_type
decreases-codomain_type l = 4 * l.depth + 1

abbrev pub decreases-pi_type : goal.decreases-pi_type
decreases-pi_type l = 4 * l.depth + 2

abbrev pub decreases-form_type : goal.decreases-form_type
decreases-form_type l = 4 * l.depth + 3
