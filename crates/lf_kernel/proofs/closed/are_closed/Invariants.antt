use Rattle.std.proofs.Common.{◌≡◌, drop}
use Rattle.lf_checker.specs.Admission.{are_closed}
use Rattle.lf_kernel.proofs.closed.are_closed.Given as goal

-- the others decide
abbrev pub invariant-constructors : goal.invariant-constructors
invariant-constructors l = are_closed l.ctors ≡ are_closed (drop l.ctor-index l.ctors)
