use Rattle.lf_elaboration_laws.proofs.KeepingLaws.{binder_waits}
use Rattle.lf_elaboration_laws.proofs.binders_wait_for_the_view.Goals as goal

pub returns : goal.returns
returns c = binder_waits
