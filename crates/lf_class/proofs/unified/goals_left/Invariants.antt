use Rattle.std.proofs.Common.{◌≡◌, drop}
use Rattle.lf_resolution.specs.Walk.{goals_left}
use Rattle.lf_class.specs.Into.{goals_into}
use Rattle.lf_class.proofs.unified.goals_left.Given as goal

abbrev pub invariant-loop-one : goal.invariant-loop-one
invariant-loop-one l = goals_left l.metas l.given l.fn.units ≡ goals_into l.metas l.goals (drop l.one-index l.given) l.units
