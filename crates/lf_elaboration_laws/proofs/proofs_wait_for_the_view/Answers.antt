use Rattle.lf_elaboration_laws.proofs.KeepingLaws.{proofs_wait}
use Rattle.lf_elaboration_laws.proofs.proofs_wait_for_the_view.Goals as goal

pub returns : goal.returns
returns c = proofs_wait
