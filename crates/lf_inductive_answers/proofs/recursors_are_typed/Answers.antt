use Rattle.lf_inductive_answers.proofs.Typed.{typed}
use Rattle.lf_inductive_answers.proofs.recursors_are_typed.Goals as goal

pub returns : goal.returns
returns c = typed
