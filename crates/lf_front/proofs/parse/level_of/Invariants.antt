use Rattle.std.proofs.Common.{◌≡◌}
use Rattle.lf_front.specs.Grammar.{level_of}
use Rattle.lf_front.proofs.parse.level_of.Given as goal

abbrev pub invariant-loop : goal.invariant-loop
invariant-loop l = l.level ≡ level_of l.counter
