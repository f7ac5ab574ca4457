use Rattle.std.proofs.Common.{◌≡◌, ℕ, ◌-◌, ◌≤◌, length, take, reverse, sym, ap, ◌∙◌, arith, subst, rules, count_by}
use Rattle.std.specs.List.{prefix_len}
use Rattle.std.proofs.lemmas.List.{length-reverse}
use Rattle.std.specs.Vec.{vec_len}
use Rattle.lf_text.specs.Layout.{Put, close, is_block, is_bracket}
use Rattle.lf_token.proofs.Frames.{reverse_truncate, count_drop, above_within, closed}
use Rattle.lf_token.proofs.stack.Stack.close.Goals as goal

pub overflow_sub-len : goal.overflow_sub-len
overflow_sub-len c =
    let few : c.args.n ≤ prefix_len is_block (reverse c.self.inside.frames.items) =
    subst (λ (p : Put). c.args.n ≤ prefix_len is_block p.frames) (sym c.self.view_is) c.requires in
    let all : vec_len c.self.inside.frames ≡ length c.self.inside.frames.items = search rules in
    omega (arith, c.len.ensures, above_within (reverse c.self.inside.frames.items), length-reverse c.self.inside.frames.items)

pub invariant_of-self-2 : goal.invariant_of-self-2
invariant_of-self-2 c =
    let few : c.args.n ≤ prefix_len is_block (reverse c.self.inside.frames.items) =
    subst (λ (p : Put). c.args.n ≤ prefix_len is_block p.frames) (sym c.self.view_is) c.requires in
    let all : vec_len c.self.inside.frames ≡ length c.self.inside.frames.items = search rules in
    let within : c.args.n ≤ length c.self.inside.frames.items =
    omega (arith, above_within (reverse c.self.inside.frames.items), length-reverse c.self.inside.frames.items) in
    c.self.invariant ∙ count_drop c.args.n (reverse c.self.inside.frames.items) few
    ∙ ap (count_by is_bracket)
    (sym (ap reverse (c.truncate.ensures.items ∙ ap (λ (k : ℕ). take (k - c.args.n) c.self.inside.frames.items) (c.len.ensures ∙ all))
    ∙ reverse_truncate c.self.inside.frames.items c.args.n within))

pub returns : goal.returns
returns c =
    let few : c.args.n ≤ prefix_len is_block (reverse c.self.inside.frames.items) =
    subst (λ (p : Put). c.args.n ≤ prefix_len is_block p.frames) (sym c.self.view_is) c.requires in
    let all : vec_len c.self.inside.frames ≡ length c.self.inside.frames.items = search rules in
    let within : c.args.n ≤ length c.self.inside.frames.items =
    omega (arith, above_within (reverse c.self.inside.frames.items), length-reverse c.self.inside.frames.items) in
    closed c.self.inside.tokens.items c.push_closes.new.tokens.items c.self.inside.frames.items c.truncate.new.self.items c.args.at c.args.n
    c.in_ok-push_closes.ensures
    (c.truncate.ensures.items ∙ ap (λ (k : ℕ). take (k - c.args.n) c.self.inside.frames.items) (c.len.ensures ∙ all)) within
    ∙ ap (close c.args.at c.args.n) c.self.view_is
