use Rattle.lf_put_laws.proofs.States as laws
use Rattle.lf_put_laws.proofs.test_at_close_is_scope.Goals as goal

pub returns : goal.returns
returns c = laws.test_is_scope
