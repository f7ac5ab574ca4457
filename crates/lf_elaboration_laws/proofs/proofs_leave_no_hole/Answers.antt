use Rattle.lf_elaboration_laws.proofs.Pending.{proofs_add_none}
use Rattle.lf_elaboration_laws.proofs.proofs_leave_no_hole.Goals as goal

pub returns : goal.returns
returns c = proofs_add_none
