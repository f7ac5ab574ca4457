use Rattle.lf_resolution_laws.proofs.Extended.{resolution_extends}
use Rattle.lf_resolution_laws.proofs.resolution_is_extended.Goals as goal

pub returns : goal.returns
returns c = resolution_extends
