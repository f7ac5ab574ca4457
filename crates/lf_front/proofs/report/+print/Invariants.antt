use Rattle.std.proofs.Common.{ℕ, ◌+◌, ◌*◌}
use Rattle.lf_core.specs.Size.{node_count}
use Rattle.lf_front.proofs.report.+print.Given as goal

abbrev pub decreases-print : goal.decreases-print
decreases-print l = 2 * node_count l.term.now

abbrev pub decreases-print_pi : goal.decreases-print_pi
decreases-print_pi l = 2 * (node_count l.domain.now + node_count l.body.now) + 1
