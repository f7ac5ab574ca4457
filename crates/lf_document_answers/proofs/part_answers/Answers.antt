use Rattle.lf_document_answers.proofs.Parts.{parts}
use Rattle.lf_document_answers.proofs.part_answers.Goals as goal

pub returns : goal.returns
returns c = parts
