use Rattle.std.proofs.Common.{◌≡◌, ◌++◌, drop}
use Rattle.lf_join.specs.Marked.{realized_by, made_by}
use Rattle.lf_join.specs.Sets.{has}
use Rattle.lf_join.proofs.realized.put_realized.Given as goal

abbrev pub invariant-loop-parent : goal.invariant-loop-parent
invariant-loop-parent g l =
    l.all.items ++ realized_by (has l.asked.keys) (made_by (g.M.Marks.reals l.state)) (drop l.parent-index l.parents)
    ≡ l.fn.all.items ++ realized_by (has l.asked.keys) (made_by (g.M.Marks.reals l.state)) l.parents
