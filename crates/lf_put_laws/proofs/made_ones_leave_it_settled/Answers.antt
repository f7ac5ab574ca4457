use Rattle.lf_put_laws.proofs.States as laws
use Rattle.lf_put_laws.proofs.made_ones_leave_it_settled.Goals as goal

pub returns : goal.returns
returns c = laws.stays_settled
