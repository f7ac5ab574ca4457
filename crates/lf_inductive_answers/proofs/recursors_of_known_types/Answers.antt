use Rattle.lf_inductive_answers.proofs.Recursors.{recursors}
use Rattle.lf_inductive_answers.proofs.recursors_of_known_types.Goals as goal

pub returns : goal.returns
returns c = recursors
