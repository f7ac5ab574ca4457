use Rattle.lf_fields.proofs.Returns.{header_runs}
use Rattle.lf_fields.proofs.kernel.tested.Goals as goal

pub returns-clause-value : goal.returns-clause-value
returns-clause-value c =
    let o = c.over-inner in
    let a = c.add_header-answer in
    header_runs c.args.cx.view.now o.result.view.now c.args.cx.depth o.result.budget.depth c.args.name.now c.args.ty.now c.args.units.now o.result.budget.units
    a.new.cx.budget.units c.ended.new.units a.result a.new.cx.opened.items c.ended.result o.ensures.view o.ensures.depth o.ensures.units c.ended.ensures.units
    a.ensures.value c.ended.ensures.returned
