use Rattle.lf_document_answers.proofs.Names.{names}
use Rattle.lf_document_answers.proofs.name_answers.Goals as goal

pub returns : goal.returns
returns c = names
