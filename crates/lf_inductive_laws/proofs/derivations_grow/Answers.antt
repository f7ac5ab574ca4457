use Rattle.lf_inductive_laws.proofs.Growing.{grow_derivations}
use Rattle.lf_inductive_laws.proofs.derivations_grow.Goals as goal

pub returns : goal.returns
returns c = grow_derivations
