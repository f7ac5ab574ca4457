use Rattle.std.proofs.Common.{◌+◌, ◌*◌}
use Rattle.lf_syntax.specs.Size.{level_size, levels_size}
use Rattle.lf_syntax.specs.Tree.{levels_of}
use Rattle.lf_part.proofs.levels.+written.Given as goal

abbrev pub decreases-level_of : goal.decreases-level_of
decreases-level_of l = 2 * level_size l.level.now

abbrev pub decreases-greatest_of : goal.decreases-greatest_of
decreases-greatest_of l = 2 * levels_size (levels_of l.levels.now) + 1
