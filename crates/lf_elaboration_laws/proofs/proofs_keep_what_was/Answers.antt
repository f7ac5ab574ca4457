use Rattle.lf_elaboration_laws.proofs.KeepingLaws.{proofs_keep}
use Rattle.lf_elaboration_laws.proofs.proofs_keep_what_was.Goals as goal

pub returns : goal.returns
returns c = proofs_keep
