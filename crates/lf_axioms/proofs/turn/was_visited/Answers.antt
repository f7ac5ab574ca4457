use Rattle.std.proofs.Common.{◌∙◌, ap}
use Rattle.std.specs.List.{list_any}
use Rattle.lf_core.specs.Same.{same_path}
use Rattle.lf_axioms.proofs.Items.{among_visited}
use Rattle.lf_axioms.proofs.turn.was_visited.Goals as goal

pub returns : goal.returns
returns c =
    c.contains.ensures ∙ ap (λ n. list_any (λ k. same_path n k.name.now) c.args.seen.now.keys) c.new-key.ensures
    ∙ among_visited c.args.name.now c.args.seen.now.keys
