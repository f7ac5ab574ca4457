use Rattle.std.proofs.Common.{◌≡◌, ◌++◌, ◌-◌, ◌≤◌}
use Rattle.lf_resolution.specs.Candidate.{level_metas}
use Rattle.lf_class.proofs.candidate.level_metas.Given as goal

abbrev pub invariant-levels : goal.invariant-levels
invariant-levels l = record {
  within : l.number ≤ l.count;
  rest : l.all ++ level_metas l.number (l.count - l.number) ≡ level_metas 0 l.count;
}

abbrev pub decreases-levels : goal.decreases-levels
decreases-levels l = l.count - l.number
