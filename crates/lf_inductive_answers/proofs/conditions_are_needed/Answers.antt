use Rattle.lf_inductive_answers.proofs.LeftOut.{left_out}
use Rattle.lf_inductive_answers.proofs.conditions_are_needed.Goals as goal

pub returns : goal.returns
returns c = left_out
