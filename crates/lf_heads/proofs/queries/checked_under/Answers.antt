use Rattle.std.proofs.Common.{ap, ◌∙◌}
use Rattle.lf_part.specs.Values as own
use Rattle.lf_heads.proofs.Tellings.{checked_is}
use Rattle.lf_heads.proofs.queries.checked_under.Goals as goal

pub returns-clause-value : goal.returns-clause-value
returns-clause-value g c =
    checked_is (own.part g.S.Synth.meaning c.args.part) c.args.locals.now c.args.term.now c.args.ty.now _ _ c.args.units.now _ _ (own.state c.args.state.now) _ _
    c.in_ok-term.ensures.value c.in_ok-ty.ensures.value (c.as_slice.ensures.value ∙ ap (λ l. l.names) c.locals.view_is) c.in_ok-says.ensures
