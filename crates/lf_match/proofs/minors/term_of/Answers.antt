use Rattle.std.proofs.Common.{sym, subst}
use Rattle.lf_match.specs.Compiles.{Compiles}
use Rattle.lf_match.specs.Values.{argument_of}
use Rattle.lf_match.proofs.Premises.{term_is}
use Rattle.lf_match.proofs.minors.term_of.Goals as goal

pub returns-in-Some-clause-value : goal.returns-in-Some-clause-value
returns-in-Some-clause-value c = subst (λ o. Compiles o c.minor.result c.minor.new.units)
    (sym (term_is c.args.ty.now (argument_of c.args.argument.now) c.args.left.now c.args.case.now c.args.units.now c.as_slice-binders.result.now
    c.args.motive.now c.in-Some.premise.now c.as_slice-constructors.result.now c.in-Some.ensures c.as_slice-constructors.ensures
    c.as_slice-binders.ensures.value c.requires.motive)) c.minor.ensures.value
