use Rattle.std.proofs.Common.{◌≡◌}
use Rattle.lf_task.proofs.Blocks.{told_from}
use Rattle.lf_task.proofs.ending.is_one_told.Given as goal

abbrev pub invariant-nodes : goal.invariant-nodes
invariant-nodes l = told_from l.nodes l.node-index ≡ told_from l.nodes 0
