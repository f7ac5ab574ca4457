use Rattle.lf_judgment_laws.proofs.Propositions.{propositions_collapse}
use Rattle.lf_judgment_laws.proofs.projections_of_propositions_make_all_numbers_equal.Goals as goal

pub returns : goal.returns
returns c = propositions_collapse
