use Rattle.std.proofs.Common.{◌≡◌, ◌++◌, drop, map}
use Rattle.lf_elaboration.specs.Variables.{takes}
use Rattle.lf_variables.proofs.rounds.round.Given as goal

abbrev pub invariant-loop-variable : goal.invariant-loop-variable
invariant-loop-variable l =
    l.flags.items ++ map (λ v. takes l.variables l.header l.taken v.kind v) (drop l.variable-index l.variables)
    ≡ map (λ v. takes l.variables l.header l.taken v.kind v) l.variables
