use Rattle.std.proofs.Common.{◌≡◌, ◌≤◌, ◌-◌, ◌++◌}
use Rattle.lf_join.specs.Marked.{numbered_until, made_by}
use Rattle.lf_join.specs.Sets.{has}
use Rattle.lf_join.proofs.realized.put_numbered.Given as goal

abbrev pub invariant-loop-done : goal.invariant-loop-done
invariant-loop-done g l = record {
  bound : l.done ≤ l.count;
  put : l.all.items ≡ l.fn.all.items ++ numbered_until (has l.asked.keys) (made_by (g.M.Marks.reals l.state)) l.parent l.done;
}

abbrev pub decreases-loop-done : goal.decreases-loop-done
decreases-loop-done g l = l.count - l.done
