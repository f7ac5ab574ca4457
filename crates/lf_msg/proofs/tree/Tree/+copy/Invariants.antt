use Rattle.std.proofs.Common.{◌≡◌, take}
use Rattle.lf_msg.proofs.tree.Tree.+copy.Given as goal

abbrev pub invariant-each : goal.invariant-each
invariant-each l = l.children.items ≡ take l.child-index l.own

abbrev pub decreases-copy : goal.decreases-copy
decreases-copy l = l.self.now.nodes
