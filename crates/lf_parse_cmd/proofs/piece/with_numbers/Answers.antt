use Rattle.std.proofs.Common.{◌≡◌, ◌<◌, length, ap, ◌∙◌, arith}
use Rattle.lf_text.specs.Nesting.{outermost}
use Rattle.lf_syntax.specs.Classes.{pieces}
use Rattle.lf_parse_cmd.proofs.Parts.{length_numbers, put_next}
use Rattle.lf_parse_cmd.proofs.piece.with_numbers.Goals as goal

pub bounds-numbers-index : goal.bounds-numbers-index
bounds-numbers-index c =
    let l : length c.args.numbers.now ≡ length c.args.tokens.now = ap length c.requires.numbers ∙ length_numbers outermost c.args.tokens.now in
    let t : c.tokens.index < length c.args.tokens.now = c.tokens-test.true in
    omega arith

pub tokens-preserved : goal.tokens-preserved
tokens-preserved c =
    let l : length c.args.numbers.now ≡ length c.args.tokens.now = ap length c.requires.numbers ∙ length_numbers outermost c.args.tokens.now in
    put_next c.args.text.now c.args.tokens.now c.args.numbers.now c.tokens.index _ c.tokens.all.items c.push.new.self.items c.in_ok-piece.field-0
    (pieces c.args.text.now c.args.tokens.now c.args.numbers.now)
    c.tokens-test.true l c.in_ok-push.ensures.items c.in_ok-piece.ensures c.tokens.invariant
