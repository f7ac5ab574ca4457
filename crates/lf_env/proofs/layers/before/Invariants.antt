use Rattle.std.proofs.Common.{◌≡◌, take}
use Rattle.std.specs.List.{filter}
use Rattle.lf_checker.specs.View.{stands_before}
use Rattle.lf_env.specs.Layer.{entries_of}
use Rattle.lf_env.proofs.layers.before.Given as goal

abbrev pub invariant-loop-layer : goal.invariant-loop-layer
invariant-loop-layer l =
    entries_of l.all.items ≡ filter (λ e. stands_before l.limit e.position) (entries_of (take l.layer-index l.layers))
