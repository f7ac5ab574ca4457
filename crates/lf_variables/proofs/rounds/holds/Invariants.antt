use Rattle.std.proofs.Common.{◌≡◌, drop}
use Rattle.lf_elaboration.specs.Variables.{holds}
use Rattle.lf_variables.proofs.rounds.holds.Given as goal

abbrev pub invariant-loop-held : goal.invariant-loop-held
invariant-loop-held l = holds (drop l.held-index l.taken) l.variable ≡ holds l.taken l.variable
