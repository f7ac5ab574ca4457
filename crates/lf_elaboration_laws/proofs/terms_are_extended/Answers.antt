use Rattle.lf_elaboration_laws.proofs.Items.{terms_extend}
use Rattle.lf_elaboration_laws.proofs.terms_are_extended.Goals as goal

pub returns : goal.returns
returns c = terms_extend
