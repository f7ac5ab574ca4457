use Rattle.lf_elaboration_laws.proofs.Items.{binders_extend}
use Rattle.lf_elaboration_laws.proofs.binders_are_extended.Goals as goal

pub returns : goal.returns
returns c = binders_extend
