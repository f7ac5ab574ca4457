use Rattle.lf_elaboration_laws.proofs.Closed.{closing_determines}
use Rattle.lf_elaboration_laws.proofs.closing_determines_all.Goals as goal

pub returns : goal.returns
returns c = closing_determines
