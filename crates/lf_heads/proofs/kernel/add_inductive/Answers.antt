use Rattle.std.proofs.Common.{sym, ap, ◌∙◌}
use Rattle.lf_checker.specs.Admission.{add_inductive}
use Rattle.lf_part.specs.Values as own
use Rattle.lf_heads.specs.Kernels.{by_halt}
use Rattle.lf_heads.proofs.kernel.add_inductive.Goals as goal

pub returns-in-Ok-clause-value : goal.returns-in-Ok-clause-value
returns-in-Ok-clause-value g c =
    let p = sym c.check.ensures.view in
    let q = sym c.check.ensures.depth in
    ap (by_halt (own.part g.S.Synth.meaning c.args.part) (own.state c.args.state.now))
    ((λ i. add_inductive (p i) (q i) c.args.declaration.now c.args.units.now) ∙ c.in-Ok.ensures.value)

pub returns-in-Err-clause-value : goal.returns-in-Err-clause-value
returns-in-Err-clause-value g c =
    let p = sym c.check.ensures.view in
    let q = sym c.check.ensures.depth in
    c.halted.ensures.value (add_inductive c.args.part.view.now c.args.part.depth c.args.declaration.now c.args.units.now)
    (λ t. (λ i. add_inductive (p i) (q i) c.args.declaration.now c.args.units.now) ∙ c.in-Err.ensures.value t)
