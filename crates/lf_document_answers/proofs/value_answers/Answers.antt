use Rattle.lf_document_answers.proofs.Values.{values}
use Rattle.lf_document_answers.proofs.value_answers.Goals as goal

pub returns : goal.returns
returns c = values
