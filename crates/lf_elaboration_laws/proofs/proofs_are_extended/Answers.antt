use Rattle.lf_elaboration_laws.proofs.Items.{proofs_extend}
use Rattle.lf_elaboration_laws.proofs.proofs_are_extended.Goals as goal

pub returns : goal.returns
returns c = proofs_extend
