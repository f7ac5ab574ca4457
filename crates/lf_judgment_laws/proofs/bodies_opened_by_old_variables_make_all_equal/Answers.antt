use Rattle.lf_judgment_laws.proofs.Collapses.{unfresh_collapses}
use Rattle.lf_judgment_laws.proofs.bodies_opened_by_old_variables_make_all_equal.Goals as goal

pub returns : goal.returns
returns c = unfresh_collapses
