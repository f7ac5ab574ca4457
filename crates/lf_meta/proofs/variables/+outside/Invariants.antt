use Rattle.std.proofs.Common.{◌+◌, ◌*◌}
use Rattle.lf_core.specs.Size.{node_count}
use Rattle.lf_meta.proofs.variables.+outside.Given as goal

abbrev pub decreases-outside : goal.decreases-outside
decreases-outside l = 2 * node_count l.term.now

abbrev pub decreases-first : goal.decreases-first
decreases-first l = 2 * (node_count l.left.now + node_count l.right.now) + 1
