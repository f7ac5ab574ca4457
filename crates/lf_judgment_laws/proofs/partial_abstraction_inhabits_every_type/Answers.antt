use Rattle.lf_judgment_laws.proofs.Collapses.{partial_collapses}
use Rattle.lf_judgment_laws.proofs.partial_abstraction_inhabits_every_type.Goals as goal

pub returns : goal.returns
returns c = partial_collapses
