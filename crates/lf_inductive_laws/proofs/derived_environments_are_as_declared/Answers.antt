use Rattle.lf_inductive_laws.proofs.Declared.{as_declared}
use Rattle.lf_inductive_laws.proofs.derived_environments_are_as_declared.Goals as goal

pub returns : goal.returns
returns c = as_declared
