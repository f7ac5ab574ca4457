use Rattle.std.proofs.Common.{◌≡◌, ◌≤◌, ◌-◌, length, take}
use Rattle.lf_meta.proofs.metas.Metas.undo.Given as goal

abbrev pub invariant-changes : goal.invariant-changes
invariant-changes l = take l.mark l.self ≡ take l.mark l.initial.self

abbrev pub decreases-changes : goal.decreases-changes
decreases-changes l = length l.self
