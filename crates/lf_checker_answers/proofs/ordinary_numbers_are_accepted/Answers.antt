use Rattle.lf_checker_answers.proofs.Ordinary.{ordinary_answers}
use Rattle.lf_checker_answers.proofs.ordinary_numbers_are_accepted.Goals as goal

pub returns : goal.returns
returns c = ordinary_answers
