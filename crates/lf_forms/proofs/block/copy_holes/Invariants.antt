use Rattle.std.proofs.Common.{◌≡◌, ◌++◌, drop}
use Rattle.lf_forms.proofs.block.copy_holes.Given as goal

abbrev pub invariant-holes : goal.invariant-holes
invariant-holes l = l.all.items ++ drop l.hole-index l.holes ≡ l.fn.all.items ++ l.holes
