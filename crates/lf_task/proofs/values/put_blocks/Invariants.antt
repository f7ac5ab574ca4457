use Rattle.std.proofs.Common.{◌≡◌, ◌+◌, ◌++◌, map}
use Rattle.lf_document.specs.Diagnoses.{block_node}
use Rattle.lf_msg.specs.Trees.{flat_all, nodes_all}
use Rattle.lf_part.specs.Says as says
use Rattle.lf_task.proofs.values.put_blocks.Given as goal

abbrev pub invariant-loop-node : goal.invariant-loop-node
invariant-loop-node l = record {
  messages : l.all.items ++ flat_all (map block_node (map says.node l.node-iterator.rest.items))
      ≡ l.fn.all.items ++ flat_all (map block_node (map says.node l.fn.nodes.items));
  count : l.count + nodes_all (map block_node (map says.node l.node-iterator.rest.items))
      ≡ nodes_all (map block_node (map says.node l.fn.nodes.items));
}
