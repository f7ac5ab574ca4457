use Rattle.lf_inductive_laws.proofs.Telescopes.{telescope_laws}
use Rattle.lf_inductive_laws.proofs.telescopes_open_and_close.Goals as goal

pub returns : goal.returns
returns c = telescope_laws
