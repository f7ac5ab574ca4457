use Rattle.lf_elaboration_answers.proofs.Worked.{answers}
use Rattle.lf_elaboration_answers.proofs.worked_answers.Goals as goal

pub returns : goal.returns
returns c = answers
