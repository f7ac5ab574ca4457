use Rattle.lf_judgment_laws.proofs.Scopes.{relations_keep_scope}
use Rattle.lf_judgment_laws.proofs.relations_keep_scope.Goals as goal

pub returns : goal.returns
returns c = relations_keep_scope
