use Rattle.std.proofs.Common.{◌≡◌, drop}
use Rattle.lf_equations.specs.Coverage.{all_cases}
use Rattle.lf_match.proofs.coverage.all_cases.Given as goal

-- what is still to be tested is as all
abbrev pub invariant-cases : goal.invariant-cases
invariant-cases l = all_cases l.view l.constructors l.cases l.fn.units ≡ all_cases l.view l.constructors (drop l.case-index l.cases) l.units
