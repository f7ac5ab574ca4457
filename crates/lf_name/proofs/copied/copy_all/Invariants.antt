use Rattle.std.proofs.Common.{◌≡◌, take}
use Rattle.lf_name.proofs.copied.copy_all.Given as goal

abbrev pub invariant-loop-item : goal.invariant-loop-item
invariant-loop-item g l = l.all ≡ take l.item-index l.list
