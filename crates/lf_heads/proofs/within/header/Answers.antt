use Rattle.lf_checker.specs.Checker.{add_header}
use Rattle.lf_heads.proofs.Returns.{over_runs}
use Rattle.lf_heads.proofs.within.header.Goals as goal

pub returns-clause-value : goal.returns-clause-value
returns-clause-value c =
    over_runs (λ V d u. add_header V d c.args.name.now c.args.ty.now u)
    c.args.cx.view.now c.over-kernel.result.view.now c.args.cx.depth c.over-kernel.result.budget.depth c.args.units.now c.over-kernel.result.budget.units
    c.add_header-answer.new.cx.budget.units c.ended.new.units c.add_header-answer.result c.add_header-answer.new.cx.opened.items c.ended.result
    c.over-kernel.ensures.view c.over-kernel.ensures.depth c.over-kernel.ensures.units c.add_header-answer.ensures.value c.ended.ensures.returned c.ended.ensures.units
