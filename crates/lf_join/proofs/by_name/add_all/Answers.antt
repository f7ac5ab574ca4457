use Rattle.std.proofs.Common.{◌≡◌, ◌∙◌, ap, sym, take, ◌||◌, ◌++◌, ◌∷◌, []}
use Rattle.std.proofs.lemmas.List.{take_more}
use Rattle.lf_core.specs.Same.{same_path}
use Rattle.lf_rules.specs.Recursor.{is_among}
use Rattle.lf_join.specs.Sets.{has}
use Rattle.lf_join.proofs.Sets.{among_behind, or_assoc, or_false}
use Rattle.lf_join.proofs.by_name.add_all.Goals as goal

pub loop-name-init : goal.loop-name-init
loop-name-init c n = sym (or_false (has c.args.set.now.keys n))

pub loop-name-preserved : goal.loop-name-preserved
loop-name-preserved c n =
    let ns = c.args.names.now in
    let i = c.loop-name.name-index in
    let old = has c.args.set.now.keys n in
    c.in_ok-add.ensures n
    ∙ ap (λ b. b || same_path n c.name-item.result) (c.loop-name.invariant n)
    ∙ sym (or_assoc old (is_among n (take i ns)) (same_path n c.name-item.result))
    ∙ ap (λ b. old || b) (sym (among_behind n (take i ns) c.name-item.result))
    ∙ ap (λ ds. old || is_among n ds)
    (sym (take_more ns i c.name-item.result c.loop-name-test.true ∙ ap (λ d. take i ns ++ d ∷ []) (sym c.name-item.is)))
