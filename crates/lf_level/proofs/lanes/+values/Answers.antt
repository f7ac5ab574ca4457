use Rattle.std.proofs.Common.{rules, ◌≤◌, [], get_or}
use Rattle.lf_core.specs.Size.{level_depth}
use Rattle.lf_level.proofs.Places.{value_fits}
use Rattle.lf_level.proofs.lanes.+values.Goals as goal

pub raised-requires : goal.raised-requires
raised-requires t c = λ k h.
    let deep : level_depth c.in-Succ.l ≤ 1024 = search rules in
    value_fits c.args.names.now (get_or c.args.trials.now k []) c.in-Succ.l (get_or c.values.result k 0) (c.requires.small k h) deep
    (c.values.ensures.value k h)
