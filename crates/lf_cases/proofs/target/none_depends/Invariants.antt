use Rattle.std.proofs.Common.{◌≡◌, ◌≤◌, ◌-◌, drop}
use Rattle.lf_elaboration.specs.Induction as spec
use Rattle.lf_cases.proofs.target.none_depends.Given as goal

abbrev pub invariant-locals : goal.invariant-locals
invariant-locals l = record {
  left : spec.none_depends l.x l.indices 0 l.locals ≡ spec.none_depends l.x l.indices l.number (drop l.number l.locals);
  within : l.number ≤ l.count;
}

abbrev pub decreases-locals : goal.decreases-locals
decreases-locals l = l.count - l.number
