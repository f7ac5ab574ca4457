use Rattle.std.proofs.Common.{◌∙◌, ◌+◌, ◌-◌, ◌++◌, ◌∷◌, [], ap, sym, arith, append_assoc}
use Rattle.lf_elaboration.specs.Injectivity.{minors_for}
use Rattle.lf_items.specs.Values.{front}
use Rattle.lf_injectivity.proofs.Parts.{minors_some}
use Rattle.lf_injectivity.proofs.selecting.+push_minors.Goals as goal

pub returns-in_ok-push_minors-in-Some : goal.returns-in_ok-push_minors-in-Some
returns-in_ok-push_minors-in-Some t c =
    let all = c.args.all.now.items in
    let p = front c.in-Some.front in
    let rest = minors_for (c.args.n - 1) c.args.index c.args.i c.args.term.now (c.args.j + 1) p.body in
    c.in_ok-push_minors-in-Some.ensures ∙ ap (λ l. l ++ rest) c.in_ok-push-in-Some.ensures.items ∙ append_assoc all (c.in_ok-minor-in-Some.minor ∷ []) rest
    ∙ ap (λ l. all ++ l) (ap (λ x. x ∷ rest) c.in_ok-minor-in-Some.ensures
    ∙ sym (minors_some c.args.n c.args.index c.args.i c.args.j c.args.term.now c.args.ty.now p (omega (arith, c.if-n-eq0.false)) (sym c.in-Some.ensures)))
