use Rattle.std.proofs.Common.{◌≡◌, ℕ, ◌+◌, List, ◌++◌, ◌∷◌, [], refl, ap, ◌∙◌, append_assoc}
use Rattle.std.specs.Prelude.{nat_lt}
use Rattle.lf_text.specs.Place.{line_of, column_of}
use Rattle.lf_text.specs.Roles.{role_of}
use Rattle.lf_text.specs.Layout.{Put, is_first, opens_block, put_led, put_before, frames_after}
use Rattle.lf_token.proofs.Prefixes.{put_of, led_whole}
use Rattle.lf_token.proofs.layout.Layout.put.Goals as goal

pub returns-clause-puts : goal.returns-clause-puts
returns-clause-puts c =
    let text : List ℕ = c.args.text.now in
    let t = c.args.token in
    let old = c.args.self.now in
    let role = role_of t.kind in
    let end : ℕ = old.previous.at + old.previous.len in
    let opens = opens_block (role_of old.previous.kind) role in
    let first : nat_lt old.line c.args.place.line ≡ is_first text old.previous t =
    ap (λ (n : ℕ). nat_lt n c.args.place.line) c.requires.knows.line ∙ ap (nat_lt (line_of text old.previous.at)) c.requires.line in
    let block : c.opens_block-opens.result ≡ opens_block (role_of old.previous.kind) role =
    c.opens_block-opens.ensures ∙ ap (λ r. opens_block r c.role-role.result) c.requires.knows.role
    ∙ ap (opens_block (role_of old.previous.kind)) c.role-role.ensures in
    let led : c.lead.new.self ≡ put_led t.at (column_of text t.at) end role opens (is_first text old.previous t) old.stack =
    c.in_ok-lead.ensures
    ∙ ap (λ r. put_led c.args.place.at c.args.place.column end r c.opens_block-opens.result (nat_lt old.line c.args.place.line) old.stack) c.role-role.ensures
    ∙ ap (λ (n : ℕ). put_led n c.args.place.column end role c.opens_block-opens.result (nat_lt old.line c.args.place.line) old.stack) c.requires.at
    ∙ ap (λ (n : ℕ). put_led t.at n end role c.opens_block-opens.result (nat_lt old.line c.args.place.line) old.stack) c.requires.column
    ∙ ap (λ b. put_led t.at (column_of text t.at) end role b (nat_lt old.line c.args.place.line) old.stack) block
    ∙ ap (λ b. put_led t.at (column_of text t.at) end role opens b old.stack) first in
    let before : Put = put_before text old.previous old.stack.frames t in
    let all : c.push.new.self ≡ put_of (old.stack.tokens ++ (before.tokens ++ t ∷ [])) (frames_after role before.frames) =
    c.in_ok-push.ensures
    ∙ ap (λ r. put_of (c.lead.new.self.tokens ++ t ∷ []) (frames_after r c.lead.new.self.frames)) c.role-role.ensures
    ∙ ap (λ (p : Put). put_of (p.tokens ++ t ∷ []) (frames_after role p.frames))
    (led ∙ led_whole t.at (column_of text t.at) end role opens (is_first text old.previous t) old.stack)
    ∙ ap (λ ts. put_of ts (frames_after role before.frames)) (append_assoc old.stack.tokens before.tokens (t ∷ [])) in
    record { previous = refl; tokens = ap (λ (p : Put). p.tokens) all; frames = ap (λ (p : Put). p.frames) all }
