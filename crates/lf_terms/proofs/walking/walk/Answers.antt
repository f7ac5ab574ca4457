use Rattle.std.proofs.Common.{◌≡◌, sym, ◌∙◌}
use Rattle.lf_terms.specs.Walk.{walked}
use Rattle.lf_terms.proofs.Walks.{walk_ends_as}
use Rattle.lf_terms.proofs.walking.walk.Goals as goal

pub returns-in-Ends-clause-value : goal.returns-in-Ends-clause-value
unfolding walked
returns-in-Ends-clause-value g c =
    c.turns.invariant.meaning
    ∙ walk_ends_as _ _ _ _ _ _ _ _ _ _ _ _ _ _ c.turns.invariant.kept c.turns-test.true (sym c.stops.ensures ∙ c.if-stops.false) c.in_ok-end.ensures.value
    c.in-Ends.is
