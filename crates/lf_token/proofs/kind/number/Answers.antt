use Rattle.std.proofs.Common.{◌≡◌, ℕ, ◌+◌, ◌*◌, ◌^◌, ◌<◌, ◌≤◌, drop, get_or, Some, arith, sym, ap, ◌∙◌, ⊎_elim}
use Rattle.std.specs.Char.{digit_value}
use Rattle.std.specs.Str.Parse.{digits_value, digits_value_after}
use Rattle.std.proofs.lemmas.Bool.{cases_lt}
use Rattle.std.proofs.lemmas.Grind.{get_or_default_zero}
use Rattle.lf_token.proofs.Digits.{value_grows, value_step, fits, passes, drop_past}
use Rattle.lf_token.proofs.kind.number.Goals as goal

pub returns-in-None : goal.returns-in-None
returns-in-None c =
    let cs = c.args.cs.now in
    let digit : c.digit_of.result ≡ digit_value (get_or cs c.digits.c-index 0) =
    c.digit_of.ensures.value ∙ ap digit_value (c.c-item.is ∙ get_or_default_zero cs c.digits.c-index c.c-item.result c.digits-test.true) in
    let next : ℕ = c.digits.value * 10 + digit_value (get_or cs c.digits.c-index 0) in
    let total : digits_value_after 10 next (drop (c.digits.c-index + 1) cs) ≡ digits_value 10 cs =
    sym (value_step c.digits.value cs c.digits.c-index c.digits-test.true) ∙ c.digits.invariant.same in
    let grown : next ≤ digits_value_after 10 next (drop (c.digits.c-index + 1) cs) = value_grows next (drop (c.digits.c-index + 1) cs) in
    let wide : 2 ^ 128 ≤ c.digits.value * 10 + c.digit_of.result =
    ⊎_elim (λ (l : c.digits.value * 10 + c.digit_of.result < 2 ^ 128). absurd (c.in-None.ensures l))
    (λ (l : 2 ^ 128 ≤ c.digits.value * 10 + c.digit_of.result). l)
    (cases_lt (c.digits.value * 10 + c.digit_of.result) (2 ^ 128)) in
    passes (digits_value 10 cs) (omega arith)

pub returns : goal.returns
returns c =
    let cs = c.args.cs.now in
    let e : c.digits.value ≡ digits_value 10 cs =
    sym (ap (digits_value_after 10 c.digits.value) (drop_past c.digits.c-index cs c.digits-test.false)) ∙ c.digits.invariant.same in
    ap Some e ∙ fits (digits_value 10 cs) (omega (arith, c.digits.invariant.fits))

pub digits-preserved : goal.digits-preserved
digits-preserved c =
    let cs = c.args.cs.now in
    let digit : c.digit_of.result ≡ digit_value (get_or cs c.digits.c-index 0) =
    c.digit_of.ensures.value ∙ ap digit_value (c.c-item.is ∙ get_or_default_zero cs c.digits.c-index c.c-item.result c.digits-test.true) in
    let next : c.in-Some.next ≡ c.digits.value * 10 + digit_value (get_or cs c.digits.c-index 0) =
    c.in-Some.ensures.1 ∙ ap (λ (d : ℕ). c.digits.value * 10 + d) digit in
    record {
      fits = let f : c.digits.value * 10 + c.digit_of.result < 2 ^ 128 = c.in-Some.ensures.0 in omega (arith, c.in-Some.ensures.1);
      same = ap (λ (n : ℕ). digits_value_after 10 n (drop (c.digits.c-index + 1) cs)) next
          ∙ sym (value_step c.digits.value cs c.digits.c-index c.digits-test.true) ∙ c.digits.invariant.same;
    }
