use Rattle.std.proofs.Common.{◌+◌, ◌*◌}
use Rattle.lf_core.specs.Size as size
use Rattle.lf_rewrite.proofs.parts.+replace.Given as goal

abbrev pub decreases-rebuild : goal.decreases-rebuild
decreases-rebuild l = size.node_count l.term.now * 2

abbrev pub decreases-replace : goal.decreases-replace
decreases-replace l = size.node_count l.term.now * 2 + 1
