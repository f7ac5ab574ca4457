use Rattle.lf_judgment_laws.proofs.Propositions.{structures_are_no_propositions}
use Rattle.lf_judgment_laws.proofs.structures_are_never_propositions.Goals as goal

pub returns : goal.returns
returns c = structures_are_no_propositions
