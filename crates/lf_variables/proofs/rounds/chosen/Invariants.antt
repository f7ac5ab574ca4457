use Rattle.std.proofs.Common.{◌≡◌, ◌++◌, drop}
use Rattle.lf_variables.specs.Chosen.{chosen}
use Rattle.lf_variables.proofs.rounds.chosen.Given as goal

abbrev pub invariant-loop-i : goal.invariant-loop-i
invariant-loop-i l = l.all.items ++ chosen (drop l.i l.variables) (drop l.i l.flags) ≡ chosen l.variables l.flags
