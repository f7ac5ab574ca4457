use Rattle.std.proofs.Common.{sym, ◌∙◌}
use Rattle.lf_checker.specs.Checker.{add_header}
use Rattle.lf_heads.proofs.kernel.add_header.Goals as goal

pub returns-in-Err-clause-value : goal.returns-in-Err-clause-value
returns-in-Err-clause-value g c =
    let p = sym c.check.ensures.view in
    let q = sym c.check.ensures.depth in
    c.halted.ensures.value (add_header c.args.part.view.now c.args.part.depth c.args.name.now c.args.ty.now c.args.units.now)
    (λ t. (λ i. add_header (p i) (q i) c.args.name.now c.args.ty.now c.args.units.now) ∙ c.in-Err.ensures.value t)
