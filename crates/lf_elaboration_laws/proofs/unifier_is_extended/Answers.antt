use Rattle.lf_elaboration_laws.proofs.Extended.{unifier_extends}
use Rattle.lf_elaboration_laws.proofs.unifier_is_extended.Goals as goal

pub returns : goal.returns
returns c = unifier_extends
