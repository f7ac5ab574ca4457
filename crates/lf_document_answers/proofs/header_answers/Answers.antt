use Rattle.lf_document_answers.proofs.Headers.{headers}
use Rattle.lf_document_answers.proofs.header_answers.Goals as goal

pub returns : goal.returns
returns c = headers
