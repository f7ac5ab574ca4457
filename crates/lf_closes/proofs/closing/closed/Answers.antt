use Rattle.lf_closes.proofs.Loops.{closed_ends}
use Rattle.lf_closes.proofs.closing.closed.Goals as goal

pub returns-clause-value : goal.returns-clause-value
returns-clause-value g c =
    rw (closed_ends _ _ _ _ c.args.levels _ _ _ _ _ _ _ _ c.in_ok-run_pending.ensures.value
    (c.in_ok-all_assigned.ensures.value c.run_pending.new.units)) (c.levels_from.ensures.value c.run_pending.new.units)
