use Rattle.lf_equations_laws.proofs.Shape.{compiling_gives_recursion}
use Rattle.lf_equations_laws.proofs.compiling_gives_a_recursion.Goals as goal

pub returns : goal.returns
returns c = compiling_gives_recursion
