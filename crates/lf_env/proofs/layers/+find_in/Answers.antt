use Rattle.std.proofs.Common.{◌-◌, ◌∙◌, ap, sym, take, drop, length}
use Rattle.lf_checker.specs.View.{find_entry}
use Rattle.lf_env.specs.Layer.{entries_of}
use Rattle.lf_env.proofs.Entries.{found_first, found_later}
use Rattle.lf_env.proofs.Turns.{first_and_rest}
use Rattle.lf_env.proofs.layers.+find_in.Goals as goal

pub returns-in-Some : goal.returns-in-Some
returns-in-Some n c =
    let rest = entries_of (take (length c.args.layers.now - 1) (drop 1 c.args.layers.now)) in
    found_first c.first-item.result rest c.args.words.now c.in-Some.entry.now c.in-Some.ensures
    ∙ ap (λ l. find_entry l c.args.words.now) (sym (first_and_rest c.args.layers.now c.first-item.result c.in-len1-up.len_at_least c.first-item.is))

pub returns-in-None : goal.returns-in-None
returns-in-None n c =
    let rest = entries_of (take (length c.args.layers.now - 1) (drop 1 c.args.layers.now)) in
    c.find_in.ensures ∙ sym (found_later c.first-item.result rest c.args.words.now c.in-None.ensures)
    ∙ ap (λ l. find_entry l c.args.words.now) (sym (first_and_rest c.args.layers.now c.first-item.result c.in-len1-up.len_at_least c.first-item.is))
