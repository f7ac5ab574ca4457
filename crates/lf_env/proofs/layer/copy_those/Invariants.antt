use Rattle.std.proofs.Common.{◌≡◌, take}
use Rattle.std.specs.List.{filter}
use Rattle.indexmap.specs.IndexSet.{insert_all}
use Rattle.lf_env.specs.Names.{same_entry}
use Rattle.lf_env.specs.Layer.{is_within}
use Rattle.lf_env.proofs.layer.copy_those.Given as goal

abbrev pub invariant-loop-entry : goal.invariant-loop-entry
invariant-loop-entry l = l.table.keys ≡ insert_all same_entry l.fn.table.keys (filter (is_within l.limit) (take l.entry-index l.entries))
