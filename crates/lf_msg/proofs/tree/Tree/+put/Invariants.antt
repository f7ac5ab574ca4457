use Rattle.std.proofs.Common.{◌≡◌, ◌++◌, take}
use Rattle.lf_msg.specs.Trees.{flat_all}
use Rattle.lf_msg.proofs.tree.Tree.+put.Given as goal

abbrev pub invariant-children : goal.invariant-children
invariant-children l = l.all.items ≡ l.initial.all.items ++ flat_all (take l.child-index l.children)

abbrev pub decreases-put : goal.decreases-put
decreases-put l = l.self.now.nodes
