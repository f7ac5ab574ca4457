use Rattle.std.proofs.Common.{◌≡◌, ℕ, ◌+◌, ◌<◌, ◌≤◌, ◌∙◌, ap, arith, []}
use Rattle.lf_document.specs.Joined.{messages_of}
use Rattle.lf_join.specs.Marked.{group_with, names_with, made_by}
use Rattle.lf_join.specs.Sets.{has}
use Rattle.lf_join.proofs.Commands.{next_put}
use Rattle.lf_join.proofs.joins.gathered.Goals as goal

in_bound : (i n : ℕ) → i < n → i + 1 ≤ n
in_bound i n h = omega (arith, h)

pub loop-i-preserved : goal.loop-i-preserved
loop-i-preserved g c =
    let heads = g.M.Marks.heads c.args.state.now in
    let bodies = g.M.Marks.bodies c.args.state.now in
    let made = made_by (g.M.Marks.reals c.args.state.now) in
    let base = g.M.Marks.base c.args.state.now in
    let p = has c.args.asked.now.keys in
    record {
      bound = in_bound c.loop-i.i c.args.count c.loop-i-test.true;
      constants = next_put heads bodies (λ e. group_with p made e.constants) c.loop-i.i (group_with p made base) c.loop-i.all.constants.items
          c.put_command.new.all.constants.items c.loop-i.invariant.constants c.in_ok-put_command.ensures.constants;
      names = next_put heads bodies (λ e. names_with p made e.constants) c.loop-i.i (names_with p made base) c.loop-i.all.realized.items
          c.put_command.new.all.realized.items c.loop-i.invariant.names c.in_ok-put_command.ensures.names;
      messages = next_put heads bodies messages_of c.loop-i.i [] c.loop-i.all.messages.items c.put_command.new.all.messages.items
          c.loop-i.invariant.messages c.in_ok-put_command.ensures.messages;
    }
