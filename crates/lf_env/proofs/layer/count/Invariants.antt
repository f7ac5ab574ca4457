use Rattle.std.proofs.Common.{◌≡◌, ◌≤◌, take, length}
use Rattle.std.specs.List.{filter}
use Rattle.lf_env.specs.Layer.{is_within}
use Rattle.lf_env.proofs.layer.count.Given as goal

abbrev pub invariant-loop-entry : goal.invariant-loop-entry
invariant-loop-entry l = (l.found ≡ length (filter (is_within l.limit) (take l.entry-index l.entries))) × (l.found ≤ l.entry-index)
