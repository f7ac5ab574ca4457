use Rattle.std.proofs.Common.{◌≡◌, drop}
use Rattle.lf_elaboration.specs.Variables.{any, names_level}
use Rattle.lf_variables.proofs.naming.is_any_level.Given as goal

abbrev pub invariant-loop-reference : goal.invariant-loop-reference
invariant-loop-reference l = any (names_level l.level) (drop l.reference-index l.references) ≡ any (names_level l.level) l.references
