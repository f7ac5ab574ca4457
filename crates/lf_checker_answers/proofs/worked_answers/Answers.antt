use Rattle.lf_checker_answers.proofs.Worked.{answers}
use Rattle.lf_checker_answers.proofs.worked_answers.Goals as goal

pub returns : goal.returns
returns c = answers
