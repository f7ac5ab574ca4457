use Rattle.std.proofs.Common.{◌≡◌, ◌+◌, ◌*◌, ◌≤◌, ◌++◌, drop}
use Rattle.lf_syntax.specs.Tree.{levels_of}
use Rattle.lf_syntax.specs.Size.{level_size, levels_size}
use Rattle.lf_elaboration.specs.References.{levels_references}
use Rattle.lf_variables.proofs.levels.+level.Given as goal

abbrev pub decreases-level_references : goal.decreases-level_references
decreases-level_references l = 2 * level_size l.level.now

abbrev pub decreases-levels_references : goal.decreases-levels_references
decreases-levels_references l = 2 * levels_size (levels_of l.levels.now) + 1

-- the references so far and those of what is left are those of all
abbrev pub invariant-levels_references-loop-level : goal.invariant-levels_references-loop-level
invariant-levels_references-loop-level l =
    record {
      told : l.all.items ++ levels_references (levels_of (drop l.level-index l.levels)) ≡ l.fn.all.items ++ levels_references (levels_of l.levels);
      rest : levels_size (levels_of (drop l.level-index l.levels)) ≤ levels_size (levels_of l.levels);
    }
