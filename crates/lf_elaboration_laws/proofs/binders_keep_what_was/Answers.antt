use Rattle.lf_elaboration_laws.proofs.KeepingLaws.{binder_keeps}
use Rattle.lf_elaboration_laws.proofs.binders_keep_what_was.Goals as goal

pub returns : goal.returns
returns c = binder_keeps
