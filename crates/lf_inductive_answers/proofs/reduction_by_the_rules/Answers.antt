use Rattle.lf_inductive_answers.proofs.Reductions.{reductions}
use Rattle.lf_inductive_answers.proofs.reduction_by_the_rules.Goals as goal

pub returns : goal.returns
returns c = reductions
