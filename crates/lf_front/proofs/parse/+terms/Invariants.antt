use Rattle.std.proofs.Common.{ℕ, ◌+◌, ◌*◌}
use Rattle.lf_front.proofs.parse.+terms.Given as goal

abbrev pub decreases-term : goal.decreases-term
decreases-term l = 5 * l.depth

abbrev pub decreases-inside : goal.decreases-inside
decreases-inside l = 5 * l.depth + 1

abbrev pub decreases-for_all : goal.decreases-for_all
decreases-for_all l = 5 * l.depth + 2

abbrev pub decreases-atom : goal.decreases-atom
decreases-atom l = 5 * l.depth + 1

abbrev pub decreases-arrows : goal.decreases-arrows
decreases-arrows l = 5 * l.depth + 2
