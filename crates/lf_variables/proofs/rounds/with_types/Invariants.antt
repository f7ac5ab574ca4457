use Rattle.std.proofs.Common.{◌≡◌, ◌++◌, drop}
use Rattle.lf_variables.specs.Chosen.{of_types}
use Rattle.lf_variables.proofs.rounds.with_types.Given as goal

abbrev pub invariant-loop-variable : goal.invariant-loop-variable
invariant-loop-variable l = l.all.items ++ of_types (drop l.variable-index l.variables) ≡ l.references ++ of_types l.variables
