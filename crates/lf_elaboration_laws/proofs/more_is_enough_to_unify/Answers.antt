use Rattle.lf_elaboration_laws.proofs.AgainUnifier.{unifier_again}
use Rattle.lf_elaboration_laws.proofs.more_is_enough_to_unify.Goals as goal

pub returns : goal.returns
returns c = unifier_again
