use Rattle.lf_equations_answers.proofs.Compiled.{answers}
use Rattle.lf_equations_answers.proofs.compiled_answers.Goals as goal

pub returns : goal.returns
returns c = answers
