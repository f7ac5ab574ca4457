use Rattle.std.proofs.Common.{◌≡◌, ◌++◌}
use Rattle.lf_task.proofs.ending.put_nodes.Given as goal

abbrev pub invariant-loop-node : goal.invariant-loop-node
invariant-loop-node l = l.all.items ++ l.node-iterator.rest.items ≡ l.fn.all.items ++ l.fn.nodes.items
