use Rattle.std.proofs.Common.{◌≡◌, ◌+◌, ◌++◌, length, map, reverse}
use Rattle.lf_elaboration.specs.Messages.{messages_of, nodes_of}
use Rattle.lf_part.specs.Says.{message, node}
use Rattle.lf_terms.proofs.block.gather.Given as goal

abbrev pub invariant-children : goal.invariant-children
invariant-children l = record {
  messages : map message l.all.items ++ messages_of (map node (reverse l.rest.items))
      ≡ map message l.fn.all.items ++ messages_of (map node l.fn.children.items);
  nodes : l.count + nodes_of (map node (reverse l.rest.items)) ≡ nodes_of (map node l.fn.children.items);
}

abbrev pub decreases-children : goal.decreases-children
decreases-children l = length l.rest.items
