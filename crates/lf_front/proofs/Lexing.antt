-- Identifiers are ASCII, and one more token before the others.
use Rattle.std.proofs.Common.{
  ◌≡◌,
  ℕ,
  ◌+◌,
  ◌≤◌,
  ◌<◌,
  List,
  [],
  ◌∷◌,
  ◌++◌,
  length,
  get_or,
  take,
  drop,
  Bool,
  true,
  false,
  ◌||◌,
  ◌&&◌,
  ◌==◌,
  nat_lt,
  refl,
  subst,
  arith,
  append-nil,
  append_assoc,
}
use Rattle.std.specs.List.{list_all}
use Rattle.std.specs.Char.{is_ascii_alphabetic, is_ascii_digit}
use Rattle.std.proofs.lemmas.Bool.Decides.{nat_tests}
use Rattle.lf_front.specs.declared.token.Token.{Token}
use Rattle.lf_front.specs.Lexemes.{starts, is_digit, goes_on, goes_over, part_next, is_ascii, is_tail, is_lexeme, token_of, past_white, IsLongest, Tokens}

and_left : (a b : Bool) → a && b ≡ true → a ≡ true
and_left true b e = refl
and_left false b e = e

and_right : (a b : Bool) → a && b ≡ true → b ≡ true
and_right true b e = e
and_right false b e = cc

and_both : (a b : Bool) → a ≡ true → b ≡ true → a && b ≡ true
and_both true b e f = f
and_both false b e f = e

starts_ascii : (c : ℕ) → starts c ≡ true → is_ascii c ≡ true
unfolding starts
starts_ascii c e = grind (arith, nat_tests)

over_ascii : (c : ℕ) (cs : List ℕ) → goes_over c cs ≡ true → is_ascii c ≡ true
unfolding starts is_digit
over_ascii c cs e = grind (arith, nat_tests)

tail_ascii : (cs : List ℕ) → is_tail cs ≡ true → list_all is_ascii cs ≡ true
tail_ascii [] e = refl
tail_ascii (c ∷ cs) e =
    and_both (is_ascii c) (list_all is_ascii cs) (over_ascii c cs (and_left (goes_over c cs) (is_tail cs) e))
    (tail_ascii cs (and_right (goes_over c cs) (is_tail cs) e))

pub word_is_ascii : (cs : List ℕ) → is_lexeme cs ≡ true → starts (get_or cs 0 0) ≡ true → list_all is_ascii cs ≡ true
word_is_ascii [] e s = refl
word_is_ascii (c ∷ cs) e s = let tail = rw s at e in and_both (is_ascii c) (list_all is_ascii cs) (starts_ascii c s) (tail_ascii cs tail)

-- The tokens so far are all, at the end of the text.
pub no_more : (cs rest : List ℕ) (out : List Token) → ((ts : List Token) → Tokens rest ts → Tokens cs (out ++ ts)) → past_white rest ≡ [] → Tokens cs out
no_more cs rest out f e = let all = f [] e in subst (λ (ts : List Token). Tokens cs ts) (append-nil out) all

-- The tokens so far and one more, before those of the rest.
pub one_more : (cs rest behind : List ℕ) (out : List Token) (t : Token) (n : ℕ) → ((ts : List Token) → Tokens rest ts → Tokens cs (out ++ ts)) → 0 < n
    → IsLongest is_lexeme (past_white rest) n → t ≡ token_of (take n (past_white rest)) → behind ≡ drop n (past_white rest)
    → (ts : List Token) → Tokens behind ts → Tokens cs ((out ++ t ∷ []) ++ ts)
one_more cs rest behind out t n f some longest is back ts more =
    rw (append_assoc out (t ∷ []) ts) (f (t ∷ ts) (n, some, longest, is, subst (λ (r : List ℕ). Tokens r ts) back more))
