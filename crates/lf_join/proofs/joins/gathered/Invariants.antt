use Rattle.std.proofs.Common.{◌≡◌, ◌≤◌, ◌-◌, flat_map}
use Rattle.lf_document.specs.Joined.{messages_of}
use Rattle.lf_join.specs.Marked.{commands_until, constants_in, names_among, made_by}
use Rattle.lf_join.specs.Sets.{has}
use Rattle.lf_join.proofs.joins.gathered.Given as goal

abbrev pub invariant-loop-i : goal.invariant-loop-i
invariant-loop-i g l = record {
  bound : l.i ≤ l.count;
  constants : l.all.constants.items
      ≡ constants_in (has l.asked.keys) (made_by (g.M.Marks.reals l.state)) (g.M.Marks.base l.state)
      (commands_until (g.M.Marks.heads l.state) (g.M.Marks.bodies l.state) l.i);
  names : l.all.realized.items
      ≡ names_among (has l.asked.keys) (made_by (g.M.Marks.reals l.state)) (g.M.Marks.base l.state)
      (commands_until (g.M.Marks.heads l.state) (g.M.Marks.bodies l.state) l.i);
  messages : l.all.messages.items ≡ flat_map messages_of (commands_until (g.M.Marks.heads l.state) (g.M.Marks.bodies l.state) l.i);
}

abbrev pub decreases-loop-i : goal.decreases-loop-i
decreases-loop-i g l = l.count - l.i
