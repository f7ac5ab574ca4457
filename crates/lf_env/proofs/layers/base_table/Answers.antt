use Rattle.std.proofs.Common.{◌∙◌, ap}
use Rattle.indexmap.specs.IndexSet.{insert_key}
use Rattle.lf_env.specs.Names.{same_entry}
use Rattle.lf_env.proofs.Turns.{base_turn}
use Rattle.lf_env.proofs.layers.base_table.Goals as goal

pub loop-info-preserved : goal.loop-info-preserved
loop-info-preserved c =
    base_turn c.loop-info.yielded c.in-Some.info c.loop-info.table.keys c.insert.new.self.keys
    (c.in_ok-insert.ensures.keys ∙ ap (insert_key same_entry c.loop-info.table.keys) c.in_ok-new.ensures) c.loop-info.invariant
