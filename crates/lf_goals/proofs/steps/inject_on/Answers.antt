use Rattle.lf_part.specs.Values as own
use Rattle.lf_goals.proofs.steps.inject_on.Goals as goal

pub returns-clause-value : goal.returns-clause-value
returns-clause-value g c =
    rw (c.in_ok-ty.ensures.value, c.in_ok-step.ensures.value (own.state c.args.state.now)) (c.step_or_fail.ensures.value _ (own.state c.args.state.now))
