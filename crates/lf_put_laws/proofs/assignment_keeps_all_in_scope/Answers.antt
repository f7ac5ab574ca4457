use Rattle.lf_put_laws.proofs.States as laws
use Rattle.lf_put_laws.proofs.assignment_keeps_all_in_scope.Goals as goal

pub returns : goal.returns
returns c = laws.assignment_keeps_all
