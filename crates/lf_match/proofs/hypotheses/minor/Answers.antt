use Rattle.std.proofs.Common.{sym, subst}
use Rattle.lf_recursor.specs.Values.{opened_of}
use Rattle.lf_match.specs.Compiles.{Compiles}
use Rattle.lf_match.proofs.Fields.{minor_end}
use Rattle.lf_match.proofs.hypotheses.minor.Goals as goal

pub returns-clause-value : goal.returns-clause-value
returns-clause-value c = subst (λ o. Compiles o c.behind_hypotheses.result c.behind_hypotheses.new.units)
    (sym (minor_end c.args.binders.now c.args.ty.now c.args.motive.now c.args.premise.now c.args.case.now c.args.units.now c.len.result c.in_ok-count.count
    c.open_pis.new.units c.open_pis-2.new.units c.args.context.now c.in_ok-inner.inner.items c.as_slice-2.result.now (opened_of c.in_ok-opened.opened)
    (opened_of c.in_ok-behind.behind) c.as_slice.result.now c.as_slice-3.result.now c.as_slice-4.result.now c.requires c.len.ensures c.in_ok-opened.ensures.value c.in_ok-inner.ensures c.as_slice.ensures.value
    c.in_ok-count.ensures c.as_slice-2.ensures.value c.in_ok-behind.ensures.value c.as_slice-3.ensures.value c.as_slice-4.ensures.value))
    c.behind_hypotheses.ensures.value
