use Rattle.lf_inductive_laws.proofs.Right.{derived_is_right}
use Rattle.lf_inductive_laws.proofs.derived_environments_are_right.Goals as goal

pub returns : goal.returns
returns c = derived_is_right
