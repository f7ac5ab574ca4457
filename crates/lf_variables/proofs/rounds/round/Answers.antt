use Rattle.std.proofs.Common.{◌∙◌, ap}
use Rattle.lf_variables.specs.Chosen.{is_asked_for}
use Rattle.lf_variables.proofs.Taking.{round_step}
use Rattle.lf_variables.proofs.rounds.round.Goals as goal

pub loop-variable-preserved : goal.loop-variable-preserved
loop-variable-preserved c =
    let v = c.variable-item.result in
    let asked =
    c.in_ok-is_asked_for.ensures ∙ ap (λ rs. is_asked_for c.args.variables.now rs c.args.taken.now v.kind v) c.deref.ensures.value in
    round_step
    c.args.variables.now
    c.args.header.now
    c.args.taken.now
    c.in_ok-references.references.items
    c.loop-variable.variable-index
    v
    c.loop-variable.flags.items
    c.push.new.self.items
    _
    c.in_ok-is_asked_for.field-0
    c.in_ok-references.ensures
    c.loop-variable-test.true
    c.variable-item.is
    asked
    c.in_ok-push.ensures.items
    c.loop-variable.invariant
