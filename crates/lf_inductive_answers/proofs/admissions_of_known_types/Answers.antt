use Rattle.lf_inductive_answers.proofs.Admissions.{admissions}
use Rattle.lf_inductive_answers.proofs.admissions_of_known_types.Goals as goal

pub returns : goal.returns
returns c = admissions
