use Rattle.std.proofs.Common.{sym, ◌∙◌}
use Rattle.lf_opening.proofs.Reflexive.{reflexive_at}
use Rattle.lf_opening.proofs.proving.reflexive_with.Goals as goal

pub returns-then-is_reflexive-clause-value : goal.returns-then-is_reflexive-clause-value
returns-then-is_reflexive-clause-value c s =
    rw (c.in-Some.is, reflexive_at c.in-Some.equation c.args.units.now s (sym c.is_reflexive.ensures ∙ c.if-is_reflexive.true)) (c.by_reflexivity.ensures.value s)
