use Rattle.std.proofs.Common.{◌+◌, ◌-◌, ◌∙◌, ap, sym, take, drop, length}
use Rattle.lf_checker.specs.View.{placed_from}
use Rattle.lf_env.specs.Layer.{entries_of}
use Rattle.lf_env.proofs.Entries.{placed_first, placed_later}
use Rattle.lf_env.proofs.Turns.{first_and_rest}
use Rattle.lf_env.proofs.layers.+placed_in.Goals as goal

pub returns-in-Some : goal.returns-in-Some
returns-in-Some n c =
    let rest = entries_of (take (length c.args.layers.now - 1) (drop 1 c.args.layers.now)) in
    placed_first c.args.start c.first-item.result rest c.args.words.now c.in-Some.place c.in-Some.ensures
    ∙ ap (λ l. placed_from c.args.start l c.args.words.now)
    (sym (first_and_rest c.args.layers.now c.first-item.result c.in-len1-up.len_at_least c.first-item.is))

pub returns-in-None : goal.returns-in-None
returns-in-None n c =
    let rest = entries_of (take (length c.args.layers.now - 1) (drop 1 c.args.layers.now)) in
    c.placed_in.ensures ∙ ap (λ k. placed_from (c.args.start + k) rest c.args.words.now) c.len.ensures
    ∙ sym (placed_later c.args.start c.first-item.result rest c.args.words.now c.in-None.ensures)
    ∙ ap (λ l. placed_from c.args.start l c.args.words.now)
    (sym (first_and_rest c.args.layers.now c.first-item.result c.in-len1-up.len_at_least c.first-item.is))
