use Rattle.std.proofs.Common.{subst}
use Rattle.lf_elaboration.specs.Part as parts
use Rattle.lf_part.specs.Runs.{Runs}
use Rattle.lf_part.specs.Values as own
use Rattle.lf_goals.specs.Between as between
use Rattle.lf_goals.proofs.steps.local_type.Goals as goal

pub returns-clause-value : goal.returns-clause-value
unfolding between.local_type
returns-clause-value c =
    subst (λ t. Runs (parts.instantiated t c.args.units.now (own.state c.args.state.now)) c.instantiated-whole.result c.instantiated-whole.new.units
    (own.state c.args.state.now)) c.in_ok-ty.ensures c.instantiated-whole.ensures.value
