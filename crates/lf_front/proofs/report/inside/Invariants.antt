use Rattle.std.proofs.Common.{◌≡◌, ◌∷◌, take}
use Rattle.lf_front.proofs.report.inside.Given as goal

abbrev pub invariant-loop-name : goal.invariant-loop-name
invariant-loop-name l = l.all ≡ l.fn.name ∷ take l.name-index l.names
