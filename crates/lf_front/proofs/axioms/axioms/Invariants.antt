use Rattle.std.proofs.Common.{All, length}
use Rattle.lf_front.specs.Answers.{IsShallow}
use Rattle.lf_front.proofs.Declaring.{Forward, Backward}
use Rattle.lf_front.proofs.axioms.axioms.Given as goal

abbrev pub invariant-axioms : goal.invariant-axioms
invariant-axioms l = record {
  shallow : All IsShallow l.constants;
  forward : Forward l.tokens l.constants l.rest;
  backward : Backward l.tokens l.constants l.rest;
}

abbrev pub decreases-axioms : goal.decreases-axioms
decreases-axioms l = length l.rest
