use Rattle.lf_inductive_answers.proofs.Refusals.{refusals}
use Rattle.lf_inductive_answers.proofs.refusals_of_wrong_declarations.Goals as goal

pub returns : goal.returns
returns c = refusals
