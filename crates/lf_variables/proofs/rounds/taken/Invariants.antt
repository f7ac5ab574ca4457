use Rattle.std.proofs.Common.{◌≡◌, length}
use Rattle.lf_elaboration.specs.Variables.{taken_within}
use Rattle.lf_variables.specs.Chosen.{chosen}
use Rattle.lf_variables.proofs.rounds.taken.Given as goal

abbrev pub invariant-loop-steps : goal.invariant-loop-steps
invariant-loop-steps l =
    record {
      fit : length l.flags.items ≡ length l.variables;
      told : l.all.items ≡ chosen l.variables l.flags.items;
      steps : l.all.items ≡ taken_within l._steps l.variables l.header;
    }
