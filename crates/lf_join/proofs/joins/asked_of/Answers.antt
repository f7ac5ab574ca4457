use Rattle.std.proofs.Common.{◌≡◌, ℕ, ◌+◌, ◌<◌, ◌≤◌, ◌∙◌, ap, ◌||◌, arith}
use Rattle.lf_rules.specs.Recursor.{is_among}
use Rattle.lf_join.specs.Marked.{value_or}
use Rattle.lf_join.specs.Sets.{has}
use Rattle.lf_join.proofs.Commands.{next_asked}
use Rattle.lf_join.proofs.joins.asked_of.Goals as goal

in_bound : (i n : ℕ) → i < n → i + 1 ≤ n
in_bound i n h = omega (arith, h)

pub loop-i-preserved : goal.loop-i-preserved
loop-i-preserved g c = record {
  bound = in_bound c.loop-i.i c.args.count c.loop-i-test.true;
  has = λ m. next_asked (g.M.Marks.heads c.args.state.now) (g.M.Marks.bodies c.args.state.now) m c.loop-i.i c.loop-i.set.keys c.put_asked.new.set.keys
      c.put_asked-in-loop-i.new.set.keys (c.loop-i.invariant.has m)
      (c.in_ok-put_asked.ensures m ∙ ap (λ o. has c.loop-i.set.keys m || is_among m (value_or o).asked) c.head.ensures)
      (c.in_ok-put_asked-2.ensures m ∙ ap (λ o. has c.put_asked.new.set.keys m || is_among m (value_or o).asked) c.body.ensures);
}
