use Rattle.std.proofs.Common.{◌≡◌, [], take}
use Rattle.indexmap.specs.IndexSet.{insert_all}
use Rattle.lf_env.specs.Names.{same_entry}
use Rattle.lf_env.specs.Layer.{entries_of}
use Rattle.lf_env.proofs.layers.join.Given as goal

abbrev pub invariant-loop-layer : goal.invariant-loop-layer
invariant-loop-layer l = l.table.keys ≡ insert_all same_entry [] (entries_of (take l.layer-index l.layers))
