use Rattle.lf_inductive_laws.proofs.Closes.{derived_is_closed}
use Rattle.lf_inductive_laws.proofs.derived_environments_are_closed.Goals as goal

pub returns : goal.returns
returns c = derived_is_closed
