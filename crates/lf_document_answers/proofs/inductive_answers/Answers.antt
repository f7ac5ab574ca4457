use Rattle.lf_document_answers.proofs.Inductives.{inductives}
use Rattle.lf_document_answers.proofs.inductive_answers.Goals as goal

pub returns : goal.returns
returns c = inductives
