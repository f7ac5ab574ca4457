use Rattle.lf_terms.proofs.forms.opened_codomain.Goals as goal

pub returns-in-Some-clause-value : goal.returns-in-Some-clause-value
returns-in-Some-clause-value c s = rw (c.in-Some.is, ← c.pi.view_is) (c.opened_body.ensures.value s)
