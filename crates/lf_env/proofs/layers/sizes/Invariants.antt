use Rattle.std.proofs.Common.{◌≡◌, length}
use Rattle.lf_env.proofs.layers.sizes.Given as goal

abbrev pub invariant-loop-layer : goal.invariant-loop-layer
invariant-loop-layer l = length l.all.items ≡ l.layer-index
