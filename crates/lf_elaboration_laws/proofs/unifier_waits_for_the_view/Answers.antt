use Rattle.lf_elaboration_laws.proofs.CalmUnifier.{unifier_waits}
use Rattle.lf_elaboration_laws.proofs.unifier_waits_for_the_view.Goals as goal

pub returns : goal.returns
returns c = unifier_waits
