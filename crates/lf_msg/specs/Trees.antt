-- Trees of messages as a report has them: a node's messages, and then its children's, in order.
use Rattle.std.specs.Prelude.{ℕ, suc, ◌+◌, ◌≤◌, List, [], ◌∷◌, ◌++◌}
use Rattle.std.proofs.Common.{arith}
use denote.Param.Weighed.{most}
use Rattle.lf_msg.specs.declared.message.Message.{Message}

pub record Flat : Type 0 where
  pub messages : List Message
  -- how many nodes the tree has
  pub nodes : ℕ

abbrev pub flat_all : List Flat → List Message
flat_all [] = []
flat_all (t ∷ ts) = t.messages ++ flat_all ts

abbrev pub nodes_all : List Flat → ℕ
nodes_all [] = 0
nodes_all (t ∷ ts) = t.nodes + nodes_all ts

-- No child has as many nodes as the tree.
pub most_nodes : (ts : List Flat) → most (λ t. t.nodes + 1) ts ≤ suc (nodes_all ts)
most_nodes [] = omega arith
most_nodes (t ∷ ts) = omega (arith, most_nodes ts)
