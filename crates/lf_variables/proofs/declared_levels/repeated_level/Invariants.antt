use Rattle.std.proofs.Common.{◌≡◌, drop, take}
use Rattle.lf_elaboration.specs.Scope.{names_of}
use Rattle.lf_elaboration.specs.Variables.{repeated_from, repeated_level}
use Rattle.lf_variables.proofs.declared_levels.repeated_level.Given as goal

abbrev pub invariant-loop-i : goal.invariant-loop-i
invariant-loop-i l = repeated_from (names_of (take l.i l.levels)) (drop l.i l.levels) ≡ repeated_level l.levels
