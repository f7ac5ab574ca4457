use Rattle.lf_judgment_laws.proofs.Proofs_alike.{alike}
use Rattle.lf_judgment_laws.proofs.steps_of_unformed_terms_make_all_equal.Goals as goal

pub returns : goal.returns
returns c = alike
