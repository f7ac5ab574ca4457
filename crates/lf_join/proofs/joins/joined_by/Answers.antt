use Rattle.std.proofs.Common.{◌≡◌, ◌∙◌, ap, length, flat_map}
use Rattle.lf_document.specs.Joined.{Joined, joined, asked_by, messages_of}
use Rattle.lf_join.specs.Marked.{commands_until, made_by}
use Rattle.lf_join.specs.Sets.{has}
use Rattle.lf_join.proofs.Joining.{whole}
use Rattle.lf_join.proofs.joins.joined_by.Goals as goal

pub returns : goal.returns
returns g c =
    let p = c.args.plan.now in
    let base = g.M.Marks.base c.args.state.now in
    let made = made_by (g.M.Marks.reals c.args.state.now) in
    let es = commands_until (g.M.Marks.heads c.args.state.now) (g.M.Marks.bodies c.args.state.now) c.in_ok-count.count in
    whole (has c.in_ok-asked.asked.keys) made base es c.in_ok-asked.ensures c.in_ok-text.text p.text c.budget.result p.budget c.in_ok-base.base
    c.in_ok-all.all.constants.items c.in_ok-all.all.realized.items c.in_ok-all.all.messages.items
    c.in_ok-text.ensures c.budget.ensures (c.in_ok-base.ensures ∙ ap length c.base.ensures) c.in_ok-all.ensures.constants c.in_ok-all.ensures.names
    c.in_ok-all.ensures.messages
    ∙ ap (λ n. joined p.text p.budget base made (commands_until (g.M.Marks.heads c.args.state.now) (g.M.Marks.bodies c.args.state.now) n))
    (c.in_ok-count.ensures ∙ ap length c.commands.ensures)
