use Rattle.std.proofs.Common.{sym, subst}
use Rattle.lf_core.specs.Term.{Term}
use Rattle.lf_front.specs.Infer.{Inferred}
use Rattle.lf_front.specs.Answers.{Tells}
use Rattle.lf_front.proofs.Sound.{type_step, no_call}
use Rattle.lf_front.proofs.typing.+types.Goals as goal

pub type_at-returns : goal.type_at-returns
type_at-returns t c =
    subst (λ (o : Inferred). Tells c.form_type.result o) (sym (type_step c.args.depth c.args.consts.now c.args.locals.now c.args.term.now c.if-depth-eq0.false))
    c.form_type.ensures

pub type_at-returns-then-depth-eq0 : goal.type_at-returns-then-depth-eq0
type_at-returns-then-depth-eq0 t c = rw c.if-depth-eq0.true (no_call c.args.consts.now c.args.locals.now c.args.term.now)
