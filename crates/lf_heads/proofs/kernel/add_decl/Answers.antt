use Rattle.std.proofs.Common.{sym, ◌∙◌}
use Rattle.lf_checker.specs.Checker.{add_decl}
use Rattle.lf_heads.proofs.kernel.add_decl.Goals as goal

pub returns-in-Err-clause-value : goal.returns-in-Err-clause-value
returns-in-Err-clause-value g c =
    let p = sym c.check.ensures.view in
    let q = sym c.check.ensures.depth in
    c.halted.ensures.value (add_decl c.args.part.view.now c.args.part.depth c.args.info.now c.args.units.now)
    (λ t. (λ i. add_decl (p i) (q i) c.args.info.now c.args.units.now) ∙ c.in-Err.ensures.value t)
