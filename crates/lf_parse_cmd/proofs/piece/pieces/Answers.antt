use Rattle.std.proofs.Common.{◌≡◌, List, sym, ap, ◌∙◌, subst}
use Rattle.lf_text.specs.declared.token.Token.{Token}
use Rattle.lf_text.specs.Tokens.{tokens_of}
use Rattle.lf_parse_cmd.specs.Within.{AllWithin}
use Rattle.lf_parse_cmd.proofs.Covered.{all_within}
use Rattle.lf_parse_cmd.proofs.piece.pieces.Goals as goal

pub with_numbers-requires-clause-within : goal.with_numbers-requires-clause-within
with_numbers-requires-clause-within c =
    let e : c.deref-2.result.now ≡ tokens_of c.as_str.result.now =
    c.deref-2.ensures.value ∙ c.in_ok-tokens.ensures ∙ ap tokens_of (sym c.as_str.ensures.text) in
    subst (λ (ts : List Token). AllWithin c.as_str.result.now ts) (sym e)
    (all_within c.as_str.result.now (tokens_of c.as_str.result.now) c.as_str.utf8 (c.tokens_cover_the_text.ensures c.as_str.result.now))
