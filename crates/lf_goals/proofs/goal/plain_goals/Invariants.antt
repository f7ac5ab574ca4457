use Rattle.std.proofs.Common.{◌≡◌, ◌++◌, map, drop}
use Rattle.lf_elaboration.specs.Direct as direct
use Rattle.lf_goals.proofs.goal.plain_goals.Given as goal

abbrev pub invariant-types : goal.invariant-types
invariant-types l = l.goals.items ++ map direct.plain (drop l.ty-index l.types) ≡ map direct.plain l.types
