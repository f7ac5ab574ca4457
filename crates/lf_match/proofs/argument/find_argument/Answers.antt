use Rattle.std.proofs.Common.{sym, ap, ◌∙◌, subst}
use Rattle.lf_rules.specs.Telescope.{types}
use Rattle.lf_checker.specs.Checker.{calls}
use Rattle.lf_match.specs.Compiles.{CompilesAs}
use Rattle.lf_match.specs.Values.{argument_of}
use Rattle.lf_match.proofs.Arguments.{argument_end}
use Rattle.lf_match.proofs.argument.find_argument.Goals as goal

pub returns-clause-value : goal.returns-clause-value
returns-clause-value g c = subst (λ o. CompilesAs argument_of o c.at_form.result c.at_form.new.units)
    (sym (argument_end c.args.cx.view.now (calls c.args.cx.view.now c.args.cx.depth) c.args.n c.args.ty.now c.args.units.now _ _ _ _ _
    c.in_ok-opened.ensures.value (c.in_ok-context.ensures ∙ ap types c.as_slice.ensures.value)
    c.in_ok-form.ensures.value)) c.at_form.ensures.value
