use Rattle.lf_equations_laws.proofs.Extended.{compiling_extends}
use Rattle.lf_equations_laws.proofs.compiling_is_extended.Goals as goal

pub returns : goal.returns
returns c = compiling_extends
