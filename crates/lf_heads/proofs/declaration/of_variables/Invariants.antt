use Rattle.std.proofs.Common.{◌≡◌, ◌++◌, map}
use Rattle.lf_document.specs.Setting.{of_variable}
use Rattle.lf_heads.proofs.declaration.of_variables.Given as goal

abbrev pub invariant-loop-variable : goal.invariant-loop-variable
invariant-loop-variable l = l.all.items ++ map of_variable l.variable-iterator.rest.items ≡ map of_variable l.fn.variables.items
