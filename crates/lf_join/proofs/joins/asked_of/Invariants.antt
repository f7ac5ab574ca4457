use Rattle.std.proofs.Common.{◌≡◌, ◌≤◌, ◌-◌, flat_map}
use Rattle.lf_core.specs.Term.{Path}
use Rattle.lf_rules.specs.Recursor.{is_among}
use Rattle.lf_document.specs.Joined.{asked_by}
use Rattle.lf_join.specs.Marked.{commands_until}
use Rattle.lf_join.specs.Sets.{has}
use Rattle.lf_join.proofs.joins.asked_of.Given as goal

abbrev pub invariant-loop-i : goal.invariant-loop-i
invariant-loop-i g l = record {
  bound : l.i ≤ l.count;
  has : (n : Path) → has l.set.keys n ≡ is_among n (flat_map asked_by (commands_until (g.M.Marks.heads l.state) (g.M.Marks.bodies l.state) l.i));
}

abbrev pub decreases-loop-i : goal.decreases-loop-i
decreases-loop-i g l = l.count - l.i
