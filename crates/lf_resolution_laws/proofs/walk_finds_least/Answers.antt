use Rattle.lf_resolution_laws.proofs.Least.{finds_least}
use Rattle.lf_resolution_laws.proofs.walk_finds_least.Goals as goal

pub returns : goal.returns
returns c = finds_least
