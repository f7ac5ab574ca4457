use Rattle.std.proofs.Common.{refl, sym, subst}
use Rattle.lf_steps.specs.Runs.{Runs}
use Rattle.lf_class.proofs.Scopes.{resolved}
use Rattle.lf_class.proofs.synth.resolve_among.Goals as goal

pub returns-clause-value : goal.returns-clause-value
returns-clause-value g c = λ S a b.
    subst (λ o. Runs o c.walk.result c.walk.new.units) (resolved _ c.args.cx.view.now S c.args.cx.depth c.args.locals.now.items c.args.ty.now
    c.args.units.now refl refl (sym a) (sym b) refl) c.walk.ensures.value
