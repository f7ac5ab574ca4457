use Rattle.std.proofs.Common.{◌≡◌}
use Rattle.lf_elaboration.specs.Axioms.{walk}
use Rattle.lf_axioms.specs.Walked.{todo, visited}
use Rattle.lf_axioms.proofs.walk.run.Given as goal

abbrev pub invariant-loop-step : goal.invariant-loop-step
invariant-loop-step l =
    walk l.view l.turns (visited l.seen.keys) (todo l.stack.items) ≡ walk l.fn.view l.fn.turns (visited l.fn.seen.keys) (todo l.fn.stack.items)
