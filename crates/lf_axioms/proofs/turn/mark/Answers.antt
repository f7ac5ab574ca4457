use Rattle.std.proofs.Common.{◌∙◌, ap, ◌≡◌, false, sym, ◌∷◌, [], ◌++◌, if◌then◌else◌}
use Rattle.std.specs.List.{list_any}
use Rattle.lf_core.specs.Same.{same_path}
use Rattle.lf_axioms.specs.Walked.{visited}
use Rattle.lf_axioms.proofs.Items.{among_visited, visited_more}
use Rattle.lf_axioms.proofs.turn.mark.Goals as goal

pub returns : goal.returns
returns c =
    let ks = c.args.seen.now.keys in
    let new : list_any (λ k. same_path c.new.result.name.now k.name.now) ks ≡ false =
    ap (λ n. list_any (λ k. same_path n k.name.now) ks) c.new.ensures ∙ among_visited c.args.name.now ks ∙ c.requires in
    ap visited (c.in_ok-insert.ensures.keys ∙ ap (λ b. if b then ks else ks ++ c.new.result ∷ []) new)
    ∙ visited_more ks c.new.result ∙ ap (λ n. n ∷ visited ks) c.new.ensures
