use Rattle.lf_resolution_laws.proofs.Waiting.{resolution_waits}
use Rattle.lf_resolution_laws.proofs.resolution_waits_for_the_view.Goals as goal

pub returns : goal.returns
returns c = resolution_waits
