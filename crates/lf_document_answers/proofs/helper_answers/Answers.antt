use Rattle.lf_document_answers.proofs.Helpers.{helpers}
use Rattle.lf_document_answers.proofs.helper_answers.Goals as goal

pub returns : goal.returns
returns c = helpers
