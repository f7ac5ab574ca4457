use Rattle.lf_document_answers.proofs.Structures.{structures}
use Rattle.lf_document_answers.proofs.structure_answers.Goals as goal

pub returns : goal.returns
returns c = structures
