-- Each part of a tree has fewer nodes.
use Rattle.std.specs.Prelude.{◌+◌, ◌≤◌, List, [], ◌∷◌}
use Rattle.std.proofs.Common.{arith}
use Rattle.std.specs.Arc.{arc_value}
use denote.Param.Weighed.{most}
use Rattle.lf_syntax.specs.Tree.{LevelTree, levels_of}
use Rattle.lf_syntax.specs.Size.{level_size, levels_size}
use Rattle.lf_syntax.specs.Node.{level_tree}
use Rattle.lf_syntax.specs.declared.level.LevelNode.{LevelNode}
use Rattle.lf_syntax.specs.declared.level.LevelNode.TheVariants as level
use Rattle.lf_syntax.specs.declared.level.LevelTerm.TheInside.{Inside}
use Rattle.lf_syntax.specs.declared.level.LevelTerm.TheDeep.{deep-LevelTerm, deep-LevelNode}

most_levels : (ls : List LevelTree) → most (λ l. level_size l + 1) ls ≤ levels_size (levels_of ls) + 1
most_levels [] = omega arith
most_levels (l ∷ ls) = omega (arith, most_levels ls)

node_falls : (n : LevelNode) → deep-LevelNode n ≤ level_size (level_tree n)
node_falls (level.Num n) = omega arith
node_falls (level.Name x) = omega arith
node_falls (level.Plus at l n) = omega arith
node_falls (level.Max at parts) = omega (arith, most_levels parts.items)
node_falls (level.Imax at k l) = omega arith

pub level_falls : (a : Inside) → deep-LevelTerm a ≤ level_size (level_tree (arc_value a.node))
level_falls a = omega (arith, node_falls (arc_value a.node))
