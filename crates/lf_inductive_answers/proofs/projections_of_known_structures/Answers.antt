use Rattle.lf_inductive_answers.proofs.Structures.{structures}
use Rattle.lf_inductive_answers.proofs.projections_of_known_structures.Goals as goal

pub returns : goal.returns
returns c = structures
