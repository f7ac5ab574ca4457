use Rattle.std.proofs.Common.{◌≡◌, ℕ, ◌+◌, ◌≤◌, List, length, take, drop, ap, ◌∙◌, arith}
use Rattle.lf_parse_term.specs.declared.piece.Piece.{Piece}
use Rattle.lf_parse_cmd.proofs.Cut.{goes_on, goes_last}
use Rattle.lf_parse_cmd.proofs.document.commands.Goals as goal

pub split_at-requires : goal.split_at-requires
split_at-requires c =
    let cases = rw c.in-Some.is at c.split_first.ensures.cases in
    let n : length c.in-Some.behind.now + 1 ≡ length c.commands.rest.now = cases.1 in
    let m : c.inside.result ≤ length c.in-Some.behind.now = c.inside.ensures.within in
    omega arith

pub commands-preserved : goal.commands-preserved
commands-preserved c =
    let rest : List Piece = c.commands.rest.now in
    let cases = rw c.in-Some.is at c.split_first.ensures.cases in
    goes_on c.args.toks.now rest c.in-Some.behind.now c.split_at.result.0.now c.split_at.result.1.now c.in-Some.field-0-0.now c.in_ok-one_command.field-0
    c.commands.all.items c.push.new.self.items c.commands.invariant cases.0
    (c.split_at.ensures.front ∙ ap (λ (n : ℕ). take (n + 1) rest) c.inside.ensures.count)
    (c.split_at.ensures.back ∙ ap (λ (n : ℕ). drop (n + 1) rest) c.inside.ensures.count)
    c.in_ok-one_command.ensures c.in_ok-push.ensures.items

pub returns : goal.returns
returns c =
    goes_last c.args.toks.now c.commands.rest.now c.commands.all.items c.commands.invariant (rw c.in_default.is at c.split_first.ensures.cases)
