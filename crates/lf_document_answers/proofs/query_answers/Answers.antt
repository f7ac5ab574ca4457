use Rattle.lf_document_answers.proofs.Queries.{queries}
use Rattle.lf_document_answers.proofs.query_answers.Goals as goal

pub returns : goal.returns
returns c = queries
