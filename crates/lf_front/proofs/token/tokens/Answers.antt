use Rattle.std.proofs.Common.{arith, ◌≡◌, List, ℕ, sym, subst, length, drop, take, ◌∙◌, ap}
use Rattle.std.proofs.lemmas.Grind.{common_steps}
use Rattle.lf_base.proofs.Pieces.{tail_is}
use Rattle.lf_front.proofs.Lexing.{no_more, one_more}
use Rattle.lf_front.specs.Lexemes.{past_white, token_of, IsLongest, is_lexeme}
use Rattle.lf_front.proofs.token.tokens.Goals as goal

pub returns-then-is_empty : goal.returns-then-is_empty
returns-then-is_empty c = no_more _ _ _ c.tokens.invariant (grind (arith, common_steps))

pub tokens-preserved : goal.tokens-preserved
tokens-preserved c = λ ts more.
    let front : List ℕ = c.past_white-front.result.now in
    let n : ℕ = c.lexeme_len-n.result in
    let is : front ≡ past_white c.tokens.rest.now = c.past_white-front.ensures in
    let longest : IsLongest is_lexeme (past_white c.tokens.rest.now) n = subst (λ (cs : List ℕ). IsLongest is_lexeme cs n) is c.lexeme_len-n.ensures.longest in
    let token : c.in_ok-token_of.field-0 ≡ token_of (take n (past_white c.tokens.rest.now)) = c.in_ok-token_of.ensures ∙
    ap (λ (cs : List ℕ). token_of (take n cs)) is in
    rw c.in_ok-push.ensures.items
    (one_more c.args.cs.now c.tokens.rest.now _ c.tokens.out.items c.in_ok-token_of.field-0 n c.tokens.invariant c.lexeme_len-n.ensures.some longest token
    (tail_is n front ∙ ap (drop n) is) ts more)
