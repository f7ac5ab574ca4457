use Rattle.std.proofs.Common.{◌≡◌, ℕ, ◌∙◌, ap, arith, Err, sym, subst}
use Rattle.std.specs.Str.{IsValidUpTo, valid_up_to}
use Rattle.std.proofs.lemmas.Str.{utf8_valid_len-IsValidUpTo}
use Rattle.lf_text.specs.declared.text.TextFault.TheVariants.{NotUtf8}
use Rattle.lf_text.proofs.text.Text.read.Goals as goal

pub returns-in-Err-clause-not_utf8 : goal.returns-in-Err-clause-not_utf8
returns-in-Err-clause-not_utf8 c = λ at. (
  (λ e. let same : c.valid_up_to.result ≡ at = cc in
      let up_to : valid_up_to c.in-Err.fault ≡ at = sym c.valid_up_to.ensures ∙ same in
      (omega arith, c.in-Err.ensures.cases.0, subst (λ (n : ℕ). IsValidUpTo c.args.bytes.now n) up_to c.in-Err.ensures.cases.1)),
  (λ s. ap (λ (n : ℕ). Err (NotUtf8 n))
      (c.valid_up_to.ensures ∙ c.in-Err.ensures.valid_len ∙ utf8_valid_len-IsValidUpTo c.args.bytes.now at s.2)),
)
