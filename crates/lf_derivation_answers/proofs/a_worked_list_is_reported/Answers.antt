use Rattle.lf_derivation_answers.proofs.Worked.{worked_list}
use Rattle.lf_derivation_answers.proofs.a_worked_list_is_reported.Goals as goal

pub returns : goal.returns
returns c = worked_list
