-- The trees that nodes stand for; their parts are trees already.
use Rattle.lf_syntax.specs.Tree.{LevelTree, level_number, level_name, level_plus, level_max, level_imax, levels_of}
use Rattle.lf_syntax.specs.declared.level.LevelNode.{LevelNode}
use Rattle.lf_syntax.specs.declared.level.LevelNode.TheVariants as level

abbrev pub level_tree : LevelNode → LevelTree
level_tree (level.Num n) = level_number n
level_tree (level.Name x) = level_name x
level_tree (level.Plus at l n) = level_plus at l n
level_tree (level.Max at parts) = level_max at (levels_of parts.items)
level_tree (level.Imax at k l) = level_imax at k l
