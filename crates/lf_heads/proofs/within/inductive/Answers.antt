use Rattle.lf_checker.specs.Admission.{add_inductive}
use Rattle.lf_heads.proofs.Returns.{over_runs_as}
use Rattle.lf_heads.proofs.within.inductive.Goals as goal

pub returns-clause-value : goal.returns-clause-value
returns-clause-value c =
    over_runs_as (λ v. v.items) (λ V d u. add_inductive V d c.args.decl.now u)
    c.args.cx.view.now c.over-kernel.result.view.now c.args.cx.depth c.over-kernel.result.budget.depth c.args.units.now c.over-kernel.result.budget.units
    c.add_inductive-answer.new.cx.budget.units c.ended.new.units c.add_inductive-answer.result c.add_inductive-answer.new.cx.opened.items c.ended.result
    c.over-kernel.ensures.view c.over-kernel.ensures.depth c.over-kernel.ensures.units c.add_inductive-answer.ensures.value c.ended.ensures.returned c.ended.ensures.units
