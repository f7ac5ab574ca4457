use Rattle.lf_judgment_laws.proofs.Collapses.{capturing_collapses}
use Rattle.lf_judgment_laws.proofs.captured_variables_make_all_literals_equal.Goals as goal

pub returns : goal.returns
returns c = capturing_collapses
