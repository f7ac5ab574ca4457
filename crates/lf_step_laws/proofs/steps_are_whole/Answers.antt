use Rattle.lf_step_laws.proofs.Steps.{unfolds, fires, recursive}
use Rattle.lf_step_laws.proofs.steps_are_whole.Goals as goal

pub returns : goal.returns
returns c = record { constants = unfolds; recursors = fires; recursive = recursive }
