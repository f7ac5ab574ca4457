use Rattle.lf_elaboration_laws.proofs.Realizing.{realizing_extends}
use Rattle.lf_elaboration_laws.proofs.realizing_is_extended.Goals as goal

pub returns : goal.returns
returns c = realizing_extends
