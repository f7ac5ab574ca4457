use Rattle.lf_elaboration_laws.proofs.KeepingLaws.{closing_waits}
use Rattle.lf_elaboration_laws.proofs.closing_waits_for_the_view.Goals as goal

pub returns : goal.returns
returns c = closing_waits
