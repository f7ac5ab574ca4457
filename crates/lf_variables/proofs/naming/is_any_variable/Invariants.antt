use Rattle.std.proofs.Common.{◌≡◌, drop}
use Rattle.lf_elaboration.specs.Variables.{any, names_variable}
use Rattle.lf_variables.proofs.naming.is_any_variable.Given as goal

abbrev pub invariant-loop-reference : goal.invariant-loop-reference
invariant-loop-reference l = any (names_variable l.ident) (drop l.reference-index l.references) ≡ any (names_variable l.ident) l.references
