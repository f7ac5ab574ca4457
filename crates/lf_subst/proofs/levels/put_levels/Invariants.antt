use Rattle.std.proofs.Common.{◌≡◌, take}
use Rattle.std.specs.Prelude.{map}
use Rattle.lf_core.specs.Substitution.{level_substitute}
use Rattle.lf_subst.proofs.levels.put_levels.Given as goal

abbrev pub invariant-loop-level : goal.invariant-loop-level
invariant-loop-level l = l.all ≡ map (level_substitute l.args) (take l.level-index l.levels)
