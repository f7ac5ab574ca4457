use Rattle.lf_document_answers.proofs.Realized.{realized}
use Rattle.lf_document_answers.proofs.realized_answers.Goals as goal

pub returns : goal.returns
returns c = realized
