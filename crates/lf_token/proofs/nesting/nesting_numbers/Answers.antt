use Rattle.std.proofs.Common.{◌≡◌, ℕ, ◌+◌, ◌++◌, ◌∷◌, [], List, drop, sym, ap, ◌∙◌, subst, append_assoc}
use Rattle.lf_text.specs.Nesting.{Nest, nesting_of, nesting_after}
use Rattle.lf_token.proofs.Bounds.{Within, after_within, numbers_step}
use Rattle.lf_token.proofs.nesting.nesting_numbers.Goals as goal

pub tokens-preserved : goal.tokens-preserved
tokens-preserved c =
    let i : ℕ = c.tokens.token-index in
    let old : Nest = c.tokens.nest in
    let next : Nest = c.step.new.self in
    let after : c.step.new.self ≡ nesting_after c.tokens.nest c.role.result = c.in_ok-step.ensures in
    let role = c.role.ensures in
    record {
      within = subst (Within (i + 1)) (sym after) (after_within i old c.role.result c.tokens.invariant.within);
      whole = ap (λ (ns : List ℕ). ns ++ nesting_of next (drop (i + 1) c.args.tokens.now)) c.in_ok-push.ensures.items
          ∙ ap (λ (n : Nest). (c.tokens.numbers.items ++ n.count.number ∷ []) ++ nesting_of next (drop (i + 1) c.args.tokens.now)) c.nest.view_is
          ∙ append_assoc c.tokens.numbers.items (next.count.number ∷ []) (nesting_of next (drop (i + 1) c.args.tokens.now))
          ∙ ap (λ (n : Nest). c.tokens.numbers.items ++ (n.count.number ∷ nesting_of n (drop (i + 1) c.args.tokens.now))) (after ∙ ap (nesting_after old) role)
          ∙ ap (λ (ns : List ℕ). c.tokens.numbers.items ++ ns) (sym (numbers_step old c.args.tokens.now i _ c.tokens-test.true))
          ∙ c.tokens.invariant.whole;
    }
