use Rattle.lf_inductive_laws.proofs.Recursors.{recursors_are_right}
use Rattle.lf_inductive_laws.proofs.recursors_are_right.Goals as goal

pub returns : goal.returns
returns c = recursors_are_right
