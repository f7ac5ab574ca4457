use Rattle.std.proofs.Common.{◌≡◌, []}
use Rattle.indexmap.specs.IndexSet.{insert_all}
use Rattle.lf_checker.specs.View.{base_entries}
use Rattle.lf_env.specs.Names.{same_entry}
use Rattle.lf_env.proofs.layers.base_table.Given as goal

abbrev pub invariant-loop-info : goal.invariant-loop-info
invariant-loop-info l = l.table.keys ≡ insert_all same_entry [] (base_entries l.yielded)
