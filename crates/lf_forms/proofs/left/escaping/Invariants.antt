use Rattle.std.proofs.Common.{◌≡◌, ◌-◌, drop}
use Rattle.lf_elaboration.specs.Metavariables.{metavariables, escaping, escaping_from}
use Rattle.lf_forms.proofs.left.escaping.Given as goal

abbrev pub invariant-numbers : goal.invariant-numbers
invariant-numbers l = escaping_from l.metas l.n l.k (drop l.k (metavariables l.metas)) ≡ escaping l.metas l.n

abbrev pub decreases-numbers : goal.decreases-numbers
decreases-numbers l = l.count - l.k
