use Rattle.lf_elaboration_laws.proofs.CalmUnifier.{unifier_is_calm}
use Rattle.lf_elaboration_laws.proofs.false_changes_nothing.Goals as goal

pub returns : goal.returns
returns c = unifier_is_calm
