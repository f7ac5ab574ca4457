use Rattle.lf_elaboration_laws.proofs.Walking.{walk_extends}
use Rattle.lf_elaboration_laws.proofs.walk_is_extended.Goals as goal

pub returns : goal.returns
returns c = walk_extends
