use Rattle.std.proofs.Common.{length}
use Rattle.lf_case_equation.proofs.recursion.+none_speaks.Given as goal

abbrev pub decreases-none_speaks : goal.decreases-none_speaks
decreases-none_speaks l = length l.terms.now
