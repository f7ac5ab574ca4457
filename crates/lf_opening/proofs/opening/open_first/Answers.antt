use Rattle.std.proofs.Common.{◌∙◌}
use Rattle.lf_opening.proofs.Turns.{first_ends_as}
use Rattle.lf_opening.proofs.opening.open_first.Goals as goal

pub returns-in-Ends-clause-value : goal.returns-in-Ends-clause-value
returns-in-Ends-clause-value g c =
    c.turns.invariant.meaning
    ∙ first_ends_as _ _ _ _ _ _ _ _ _ _ _ _ c.turns.invariant.kept c.turns-test.true c.in_ok-end.ensures.value c.in-Ends.is
