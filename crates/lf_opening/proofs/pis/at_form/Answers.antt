use Rattle.std.proofs.Common.{sym, ap, ◌∙◌}
use Rattle.lf_elaboration.specs.Run.{go_on, gives}
use Rattle.std.specs.Prelude.{Some}
use Rattle.lf_opening.specs.Pis.{at_form}
use Rattle.lf_opening.proofs.pis.at_form.Goals as goal

pub returns-in_ok-next-in-Some-clause-value : goal.returns-in_ok-next-in-Some-clause-value
returns-in_ok-next-in-Some-clause-value c s =
    ap (λ p. at_form c.args.types.items p c.args.units.now s) (sym c.in_ok-as_pi.ensures ∙ c.in-Some.is)
    ∙ ap (λ o. go_on o (λ U. gives (Some U))) (c.in_ok-next-in-Some.ensures.value s)
