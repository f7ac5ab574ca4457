use Rattle.lf_elaboration_answers.proofs.Scopes.{scopes}
use Rattle.lf_elaboration_answers.proofs.scope_answers.Goals as goal

pub returns : goal.returns
returns c = scopes
