use Rattle.lf_admission_laws.proofs.Shallow.{recursors_are_shallow}
use Rattle.lf_admission_laws.proofs.recursors_are_shallow.Goals as goal

pub returns : goal.returns
returns c = recursors_are_shallow
