use Rattle.lf_inductive_answers.proofs.Needs.{needs}
use Rattle.lf_inductive_answers.proofs.admission_waits.Goals as goal

pub returns : goal.returns
returns c = needs
