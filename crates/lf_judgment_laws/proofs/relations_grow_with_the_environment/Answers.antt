use Rattle.lf_judgment_laws.proofs.Grows.{relations_grow}
use Rattle.lf_judgment_laws.proofs.relations_grow_with_the_environment.Goals as goal

pub returns : goal.returns
returns c = relations_grow
