use Rattle.lf_elaboration_laws.proofs.RealizingWaits.{realizing_waits}
use Rattle.lf_elaboration_laws.proofs.realizing_waits_for_the_view.Goals as goal

pub returns : goal.returns
returns c = realizing_waits
