use Rattle.lf_document_answers.proofs.Equations.{equations}
use Rattle.lf_document_answers.proofs.equation_answers.Goals as goal

pub returns : goal.returns
returns c = equations
