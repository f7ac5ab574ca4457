use Rattle.std.proofs.Common.{◌∙◌, sym, subst, option_map}
use Rattle.lf_checker.specs.Checker.{calls}
use Rattle.lf_elaboration.specs.Injectivity.{injectivity}
use Rattle.lf_steps.specs.Runs.{RunsAs}
use Rattle.lf_telescope.specs.Values.{statement}
use Rattle.lf_realizers.specs.Values.{of_sides}
use Rattle.lf_realizers.proofs.stating.by_inj.Goals as goal

pub returns-in-Some-clause-value : goal.returns-in-Some-clause-value
returns-in-Some-clause-value g c =
    let V = c.args.cx.view.now in
    let k = calls V c.args.cx.depth in
    let u = c.args.units.now in
    subst (λ o. RunsAs (option_map statement) o c.inj.result c.inj.new.units)
    (sym (c.constructor_of.ensures V k (injectivity V) u ∙ (λ i. of_sides k (c.in-Some.is i) (injectivity V) u))) c.inj.ensures.value
