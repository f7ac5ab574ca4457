use Rattle.std.proofs.Common.{◌≡◌, ◌++◌, drop}
use Rattle.lf_variables.proofs.rounds.add_copies.Given as goal

abbrev pub invariant-loop-reference : goal.invariant-loop-reference
invariant-loop-reference l = l.all.items ++ drop l.reference-index l.references ≡ l.fn.all.items ++ l.references
