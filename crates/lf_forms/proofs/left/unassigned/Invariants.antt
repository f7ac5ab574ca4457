use Rattle.std.proofs.Common.{◌≡◌, ◌≤◌, ◌-◌, drop}
use Rattle.lf_elaboration.specs.Metavariables.{metavariables, unassigned, unassigned_from}
use Rattle.lf_forms.proofs.left.unassigned.Given as goal

abbrev pub invariant-numbers : goal.invariant-numbers
invariant-numbers l = record {
  from : l.start ≤ l.k;
  rest : unassigned_from l.metas l.start l.k (drop l.k (metavariables l.metas)) ≡ unassigned l.metas l.start;
}

abbrev pub decreases-numbers : goal.decreases-numbers
decreases-numbers l = l.count - l.k
