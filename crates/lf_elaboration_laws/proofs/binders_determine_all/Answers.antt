use Rattle.lf_elaboration_laws.proofs.Closed.{binder_determines}
use Rattle.lf_elaboration_laws.proofs.binders_determine_all.Goals as goal

pub returns : goal.returns
returns c = binder_determines
