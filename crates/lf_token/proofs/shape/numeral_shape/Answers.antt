use Rattle.std.proofs.Common.{◌≡◌, ℕ, ◌+◌, ◌<◌, take, drop, true, Some, arith, sym, ap, subst, ◌∙◌}
use Rattle.std.specs.List.{prefix_len, list_all}
use Rattle.lf_text.specs.declared.token.TokenKind.TheVariants as kind
use Rattle.lf_text.specs.Lexemes.{is_digit, token_at}
use Rattle.lf_token.specs.declared.shape.Shape.TheVariants.{Numeral}
use Rattle.lf_token.specs.Scan.{part_len, kind_by}
use Rattle.lf_token.proofs.Logic.{all_prefix, slice_end}
use Rattle.lf_token.proofs.Pieces.{numeral_at, bad_at}
use Rattle.lf_token.proofs.shape.numeral_shape.Goals as goal

pub returns-then-part-eq0-clause-token : goal.returns-then-part-eq0-clause-token
returns-then-part-eq0-clause-token c =
    let cs = c.args.cs.now in
    let none : part_len (drop (prefix_len is_digit cs) cs) ≡ 0 =
    ap (λ (n : ℕ). part_len (drop n cs)) (sym c.digits_len-digits.ensures.value)
    ∙ sym (c.part_len-part.ensures.value ∙ ap part_len (slice_end c.digits_len-digits.result cs)) ∙ c.if-part-eq0.true in
    subst (λ (n : ℕ). token_at cs ≡ (kind_by Numeral (take n cs), n)) (sym c.digits_len-digits.ensures.value)
    (numeral_at cs c.requires.some c.requires.digit none)

pub returns-then-part-eq0-clause-digits : goal.returns-then-part-eq0-clause-digits
returns-then-part-eq0-clause-digits c = λ _.
    subst (λ (n : ℕ). list_all is_digit (take n c.args.cs.now) ≡ true) (sym c.digits_len-digits.ensures.value) (all_prefix is_digit c.args.cs.now)

pub returns-else-part-eq0-clause-token : goal.returns-else-part-eq0-clause-token
returns-else-part-eq0-clause-token c =
    let cs = c.args.cs.now in
    let part : c.part_len-part.result ≡ part_len (drop (prefix_len is_digit cs) cs) =
    c.part_len-part.ensures.value ∙ ap part_len (slice_end c.digits_len-digits.result cs)
    ∙ ap (λ (n : ℕ). part_len (drop n cs)) c.digits_len-digits.ensures.value in
    let some : 0 < part_len (drop (prefix_len is_digit cs) cs) = omega arith in
    bad_at cs c.requires.some c.requires.digit some
    ∙ ap (λ (n : ℕ). (Some kind.BadNum, n))
    (let e : prefix_len is_digit cs + part_len (drop (prefix_len is_digit cs) cs) ≡ c.digits_len-digits.result + c.part_len-part.result =
    omega (arith, c.digits_len-digits.ensures.value) in e)
