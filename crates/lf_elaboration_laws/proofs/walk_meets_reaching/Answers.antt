use Rattle.lf_elaboration_laws.proofs.Reached.{walk_meets_reaching}
use Rattle.lf_elaboration_laws.proofs.walk_meets_reaching.Goals as goal

pub returns : goal.returns
returns c = walk_meets_reaching
