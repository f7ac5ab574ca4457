use Rattle.lf_elaboration_laws.proofs.Items.{closing_extends}
use Rattle.lf_elaboration_laws.proofs.closing_is_extended.Goals as goal

pub returns : goal.returns
returns c = closing_extends
