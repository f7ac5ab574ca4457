use Rattle.lf_elaboration_answers.proofs.Settled.{settled}
use Rattle.lf_elaboration_answers.proofs.settled_answers.Goals as goal

pub returns : goal.returns
returns c = settled
