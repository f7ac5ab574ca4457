use Rattle.lf_put_laws.proofs.Assigned as laws
use Rattle.lf_put_laws.proofs.assignment_keeps_scope.Goals as goal

pub returns : goal.returns
returns c = laws.assignment_keeps_scope
