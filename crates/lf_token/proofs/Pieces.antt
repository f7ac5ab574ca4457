use Rattle.std.proofs.Common.{
  ◌≡◌,
  ℕ,
  ◌+◌,
  ◌-◌,
  ◌^◌,
  ◌≤◌,
  ◌<◌,
  List,
  [],
  ◌∷◌,
  length,
  get_or,
  take,
  drop,
  Bool,
  true,
  false,
  cond,
  not,
  refl,
  sym,
  ap,
  ◌∙◌,
  arith,
  subst,
  zero,
  suc,
  Option,
  Some,
  None,
}
use Rattle.std.specs.Prelude.{is_some, nat_lt, nat_eq, codes, unwrap_or, option_map}
use Rattle.std.specs.List.{prefix_len, starts_with}
use Rattle.std.proofs.lemmas.Slice.Eq.{bytes_eq-Decides}
use Rattle.lf_text.specs.Place.{is_line_feed}
use Rattle.std.specs.Char.{encode_utf8}
use Rattle.std.specs.Str.{encode_utf8_all}
use Rattle.std.specs.Str.Parse.{digits_value}
use Rattle.std.proofs.lemmas.List.{length-drop}
use Rattle.lf_text.specs.declared.token.TokenKind.{TokenKind}
use Rattle.lf_text.specs.declared.token.TokenKind.TheVariants as kind
use Rattle.lf_tables.specs.Rows.{value_of}
use Rattle.lf_text.specs.Words.{symbols}
use Rattle.lf_text.specs.Lexemes.{
  name_kind,
  is_digit,
  starts_part,
  is_name,
  is_numeral,
  is_bad_numeral,
  is_white,
  through,
  comment_at,
  piece_at,
  kind_of,
  token_at,
}
use Rattle.lf_token.specs.declared.shape.Shape.TheVariants.{Name, Numeral}
use Rattle.lf_token.specs.Scan.{tail_len, part_len, kind_by}
use Rattle.lf_token.proofs.Logic.{and_left, and_right, false_from, if_true, if_false, token_is, bad_is, prefix_within}
use Rattle.lf_token.proofs.Names.{name_front, name_longer, no_name, tail_within}
use Rattle.lf_token.proofs.Numerals.{digit_starts, no_numeral, no_bad_numeral, numeral_front, numeral_longer, bad_front, bad_longer, part_within}
use Rattle.lf_token.proofs.Spellings.{is_symbol, symbol_starts}

-- The kind of a front, test by test.

abbrev numeral_kind : List ℕ → TokenKind
numeral_kind f = cond (nat_lt (digits_value 10 f) (2 ^ 128)) (kind.Num (digits_value 10 f)) kind.WideNum

abbrev behind_symbols : List ℕ → Option TokenKind
behind_symbols f = cond (is_numeral f) (Some (numeral_kind f)) (cond (is_bad_numeral f) (Some kind.BadNum) None)

abbrev behind_names : List ℕ → Option TokenKind
behind_names f = cond (is_symbol f) (value_of (encode_utf8_all f) symbols) (behind_symbols f)

is_name_kind : (f : List ℕ) → is_name f ≡ true → kind_of f ≡ kind_by Name f
is_name_kind f e = if_true (is_name f) (kind_by Name f) (behind_names f) e

not_name_kind : (f : List ℕ) → is_name f ≡ false → kind_of f ≡ behind_names f
not_name_kind f e = if_false (is_name f) (kind_by Name f) (behind_names f) e

symbol_kind : (f : List ℕ) (k : TokenKind) → value_of (encode_utf8_all f) symbols ≡ Some k → behind_names f ≡ Some k
symbol_kind f k e = if_true (is_symbol f) (value_of (encode_utf8_all f) symbols) (behind_symbols f) (ap is_some e) ∙ e

not_symbol_kind : (f : List ℕ) → is_symbol f ≡ false → behind_names f ≡ behind_symbols f
not_symbol_kind f e = if_false (is_symbol f) (value_of (encode_utf8_all f) symbols) (behind_symbols f) e

number_kind : (f : List ℕ) → is_numeral f ≡ true → behind_symbols f ≡ kind_by Numeral f
number_kind f e = if_true (is_numeral f) (Some (numeral_kind f)) (cond (is_bad_numeral f) (Some kind.BadNum) None) e

bad_kind : (f : List ℕ) → is_numeral f ≡ false → is_bad_numeral f ≡ true → behind_symbols f ≡ Some kind.BadNum
bad_kind f e b = if_false (is_numeral f) (Some (numeral_kind f)) (cond (is_bad_numeral f) (Some kind.BadNum) None) e
    ∙ if_true (is_bad_numeral f) (Some kind.BadNum) None b

no_kind : (f : List ℕ) → is_numeral f ≡ false → is_bad_numeral f ≡ false → behind_symbols f ≡ None
no_kind f e b = if_false (is_numeral f) (Some (numeral_kind f)) (cond (is_bad_numeral f) (Some kind.BadNum) None) e
    ∙ if_false (is_bad_numeral f) (Some kind.BadNum) None b

not_true : (a : Bool) → not a ≡ true → a ≡ false
not_true true e = cc
not_true false e = refl

-- a front that starts as a name or a numeral does is no symbol
start_no_symbol : (c : ℕ) (f : List ℕ) → starts_part c ≡ true → is_symbol (c ∷ f) ≡ false
start_no_symbol c f e =
    false_from (is_symbol (c ∷ f)) (λ s.
    sym (not_true (starts_part c) (and_left (not (starts_part c)) (not (is_digit c)) (symbol_starts c f s))) ∙ e)

digit_no_symbol : (c : ℕ) (f : List ℕ) → is_digit c ≡ true → is_symbol (c ∷ f) ≡ false
digit_no_symbol c f e =
    false_from (is_symbol (c ∷ f)) (λ s.
    sym (not_true (is_digit c) (and_right (not (starts_part c)) (not (is_digit c)) (symbol_starts c f s))) ∙ e)

start_no_digit : (c : ℕ) → starts_part c ≡ true → is_digit c ≡ false
start_no_digit c e = false_from (is_digit c) (λ d. sym (digit_starts c d) ∙ e)

name_none : (c : ℕ) (cs : List ℕ) (m : ℕ) → starts_part c ≡ true → tail_len cs + 1 < m → m ≤ suc (length cs) → kind_of (take m (c ∷ cs)) ≡ None
name_none c cs zero e l w = absurd (omega arith)
name_none c cs (suc m) e l w =
    not_name_kind (c ∷ take m cs) (name_longer c cs (suc m) l w) ∙ not_symbol_kind (c ∷ take m cs) (start_no_symbol c (take m cs) e)
    ∙ no_kind (c ∷ take m cs) (no_numeral c (take m cs) (start_no_digit c e)) (no_bad_numeral c (take m cs) (start_no_digit c e))

-- where a part starts, the token is the longest name
pub name_token : (c : ℕ) (cs : List ℕ) → starts_part c ≡ true →
    token_at (c ∷ cs) ≡ (kind_by Name (take (tail_len cs + 1) (c ∷ cs)), tail_len cs + 1)
name_token c cs e =
    let w : tail_len cs ≤ length cs = tail_within cs in
    token_is (c ∷ cs) (tail_len cs + 1)
    (name_kind (take (tail_len cs + 1) (c ∷ cs))) (omega arith) (omega arith)
    (is_name_kind (take (tail_len cs + 1) (c ∷ cs)) (name_front c cs e)) (λ m l v. name_none c cs m e l v)

digit_behind : (c : ℕ) (cs : List ℕ) (m : ℕ) → is_digit c ≡ true → 0 < m → kind_of (take m (c ∷ cs)) ≡ behind_symbols (take m (c ∷ cs))
digit_behind c cs zero e l = absurd (omega arith)
digit_behind c cs (suc m) e l =
    not_name_kind (c ∷ take m cs) (no_name c (take m cs) (digit_starts c e)) ∙ not_symbol_kind (c ∷ take m cs) (digit_no_symbol c (take m cs) e)

digits_some : (c : ℕ) (cs : List ℕ) → is_digit c ≡ true → 0 < prefix_len is_digit (c ∷ cs)
digits_some c cs e = subst (λ (b : Bool). 0 < cond b (1 + prefix_len is_digit cs) 0) (sym e) (omega arith)

digit_none : (c : ℕ) (cs : List ℕ) (m : ℕ) → is_digit c ≡ true →
    prefix_len is_digit (c ∷ cs) + part_len (drop (prefix_len is_digit (c ∷ cs)) (c ∷ cs)) < m → m ≤ suc (length cs) → kind_of (take m (c ∷ cs)) ≡ None
digit_none c cs m e l w =
    let some : 0 < prefix_len is_digit (c ∷ cs) = digits_some c cs e in
    digit_behind c cs m e (omega arith)
    ∙ no_kind (take m (c ∷ cs)) (numeral_longer (c ∷ cs) m (omega arith) w) (bad_longer (c ∷ cs) m some l w)

-- where a digit starts, and no part follows the digits, the token is a numeral
pub numeral_token : (c : ℕ) (cs : List ℕ) → is_digit c ≡ true → part_len (drop (prefix_len is_digit (c ∷ cs)) (c ∷ cs)) ≡ 0 →
    token_at (c ∷ cs) ≡ (kind_by Numeral (take (prefix_len is_digit (c ∷ cs)) (c ∷ cs)), prefix_len is_digit (c ∷ cs))
numeral_token c cs e none =
    let some : 0 < prefix_len is_digit (c ∷ cs) = digits_some c cs e in
    token_is (c ∷ cs) (prefix_len is_digit (c ∷ cs)) (numeral_kind (take (prefix_len is_digit (c ∷ cs)) (c ∷ cs))) some
    (prefix_within is_digit (c ∷ cs))
    (digit_behind c cs (prefix_len is_digit (c ∷ cs)) e some
    ∙ number_kind (take (prefix_len is_digit (c ∷ cs)) (c ∷ cs)) (numeral_front (c ∷ cs) some))
    (λ m l w. digit_none c cs m e (omega arith) w)

-- where a part follows the digits, both are one error token
pub bad_token : (c : ℕ) (cs : List ℕ) → is_digit c ≡ true → 0 < part_len (drop (prefix_len is_digit (c ∷ cs)) (c ∷ cs)) →
    token_at (c ∷ cs) ≡ (Some kind.BadNum, prefix_len is_digit (c ∷ cs) + part_len (drop (prefix_len is_digit (c ∷ cs)) (c ∷ cs)))
bad_token c cs e part =
    let d : ℕ = prefix_len is_digit (c ∷ cs) in
    let some : 0 < prefix_len is_digit (c ∷ cs) = digits_some c cs e in
    let within : prefix_len is_digit (c ∷ cs) ≤ length (c ∷ cs) = prefix_within is_digit (c ∷ cs) in
    let rest : part_len (drop (prefix_len is_digit (c ∷ cs)) (c ∷ cs)) ≤ length (drop (prefix_len is_digit (c ∷ cs)) (c ∷ cs)) =
    part_within (drop (prefix_len is_digit (c ∷ cs)) (c ∷ cs)) in
    let len : length (drop (prefix_len is_digit (c ∷ cs)) (c ∷ cs)) ≡ length (c ∷ cs) - prefix_len is_digit (c ∷ cs) =
    length-drop (prefix_len is_digit (c ∷ cs)) (c ∷ cs) in
    let all : prefix_len is_digit (c ∷ cs) + part_len (drop (prefix_len is_digit (c ∷ cs)) (c ∷ cs)) ≤ length (c ∷ cs) = omega arith in
    token_is (c ∷ cs) (d + part_len (drop d (c ∷ cs))) kind.BadNum (omega arith) all
    (digit_behind c cs (d + part_len (drop d (c ∷ cs))) e (omega arith)
    ∙ bad_kind (take (d + part_len (drop d (c ∷ cs))) (c ∷ cs)) (numeral_longer (c ∷ cs) (d + part_len (drop d (c ∷ cs))) (omega arith) all)
    (bad_front (c ∷ cs) some part all))
    (λ m l w. digit_none c cs m e l w)

other_behind : (c : ℕ) (cs : List ℕ) (m : ℕ) → starts_part c ≡ false → 0 < m → kind_of (take m (c ∷ cs)) ≡ behind_names (take m (c ∷ cs))
other_behind c cs zero e l = absurd (omega arith)
other_behind c cs (suc m) e l = not_name_kind (c ∷ take m cs) (no_name c (take m cs) e)

other_none : (c : ℕ) (cs : List ℕ) (m : ℕ) → starts_part c ≡ false → is_digit c ≡ false → 0 < m →
    is_symbol (take m (c ∷ cs)) ≡ false → kind_of (take m (c ∷ cs)) ≡ None
other_none c cs zero e d l s = absurd (omega arith)
other_none c cs (suc m) e d l s =
    other_behind c cs (suc m) e l ∙ not_symbol_kind (c ∷ take m cs) s ∙ no_kind (c ∷ take m cs) (no_numeral c (take m cs) d) (no_bad_numeral c (take m cs) d)

-- elsewhere it is the longest symbol
pub symbol_token : (c : ℕ) (cs : List ℕ) (n : ℕ) (k : TokenKind) → starts_part c ≡ false → is_digit c ≡ false → 0 < n → n ≤ suc (length cs) →
    value_of (encode_utf8_all (take n (c ∷ cs))) symbols ≡ Some k →
    ((m : ℕ) → n < m → m ≤ suc (length cs) → is_symbol (take m (c ∷ cs)) ≡ false) → token_at (c ∷ cs) ≡ (Some k, n)
symbol_token c cs n k e d some w is longer =
    token_is (c ∷ cs) n k some w (other_behind c cs n e some ∙ symbol_kind (take n (c ∷ cs)) k is)
    (λ m l v. other_none c cs m e d (omega arith) (longer m l v))

-- or, where none stands there, a bad character
pub bad_char_token : (c : ℕ) (cs : List ℕ) → starts_part c ≡ false → is_digit c ≡ false →
    ((m : ℕ) → 0 < m → m ≤ suc (length cs) → is_symbol (take m (c ∷ cs)) ≡ false) → token_at (c ∷ cs) ≡ (Some kind.BadChar, 1)
unfolding encode_utf8
bad_char_token c cs e d longer = bad_is (c ∷ cs) (λ m l w. other_none c cs m e d l (longer m l w)) nothing
  where
    nothing : kind_of [] ≡ None
    nothing = refl

-- The same at a place of a text.

pub name_at : (cs : List ℕ) → 0 < length cs → starts_part (get_or cs 0 0) ≡ true →
    token_at cs ≡ (kind_by Name (take (tail_len (drop 1 cs) + 1) cs), tail_len (drop 1 cs) + 1)
name_at [] l e = absurd (omega arith)
name_at (c ∷ cs) l e = name_token c cs e

pub numeral_at : (cs : List ℕ) → 0 < length cs → is_digit (get_or cs 0 0) ≡ true → part_len (drop (prefix_len is_digit cs) cs) ≡ 0 →
    token_at cs ≡ (kind_by Numeral (take (prefix_len is_digit cs) cs), prefix_len is_digit cs)
numeral_at [] l e p = absurd (omega arith)
numeral_at (c ∷ cs) l e p = numeral_token c cs e p

pub bad_at : (cs : List ℕ) → 0 < length cs → is_digit (get_or cs 0 0) ≡ true → 0 < part_len (drop (prefix_len is_digit cs) cs) →
    token_at cs ≡ (Some kind.BadNum, prefix_len is_digit cs + part_len (drop (prefix_len is_digit cs) cs))
bad_at [] l e p = absurd (omega arith)
bad_at (c ∷ cs) l e p = bad_token c cs e p

pub symbol_at : (cs : List ℕ) (n : ℕ) (k : TokenKind) → 0 < length cs → starts_part (get_or cs 0 0) ≡ false → is_digit (get_or cs 0 0) ≡ false → 0 < n
    → n ≤ length cs →
    value_of (encode_utf8_all (take n cs)) symbols ≡ Some k →
    ((m : ℕ) → n < m → m ≤ length cs → is_symbol (take m cs) ≡ false) → token_at cs ≡ (Some k, n)
symbol_at [] n k l e d some w is longer = absurd (omega arith)
symbol_at (c ∷ cs) n k l e d some w is longer = symbol_token c cs n k e d some w is longer

pub bad_char_at : (cs : List ℕ) → 0 < length cs → starts_part (get_or cs 0 0) ≡ false → is_digit (get_or cs 0 0) ≡ false →
    ((m : ℕ) → 0 < m → m ≤ length cs → is_symbol (take m cs) ≡ false) → token_at cs ≡ (Some kind.BadChar, 1)
bad_char_at [] l e d longer = absurd (omega arith)
bad_char_at (c ∷ cs) l e d longer = bad_char_token c cs e d longer

-- What stands at the front, test by test.

abbrev after_white : List ℕ → Option TokenKind × ℕ
after_white cs =
    cond (starts_with nat_eq cs (codes "--")) (None, prefix_len (λ x. not (is_line_feed x)) cs)
    (cond (starts_with nat_eq cs (codes "/-")) (comment_at cs) (token_at cs))

pub piece_white : (cs : List ℕ) → 0 < length cs → is_white (get_or cs 0 0) ≡ true → piece_at cs ≡ (None, 1)
piece_white [] l e = absurd (omega arith)
piece_white (c ∷ cs) l e = if_true (is_white c) (None, 1) (after_white (c ∷ cs)) e

piece_black : (cs : List ℕ) → 0 < length cs → is_white (get_or cs 0 0) ≡ false → piece_at cs ≡ after_white cs
piece_black [] l e = absurd (omega arith)
piece_black (c ∷ cs) l e = if_false (is_white c) (None, 1) (after_white (c ∷ cs)) e

pub piece_line : (cs : List ℕ) → 0 < length cs → is_white (get_or cs 0 0) ≡ false → starts_with nat_eq cs (codes "--") ≡ true →
    piece_at cs ≡ (None, prefix_len (λ x. not (is_line_feed x)) cs)
piece_line cs l e s =
    piece_black cs l e
    ∙ if_true (starts_with nat_eq cs (codes "--")) (None, prefix_len (λ x. not (is_line_feed x)) cs)
    (cond (starts_with nat_eq cs (codes "/-")) (comment_at cs) (token_at cs)) s

pub piece_comment : (cs : List ℕ) → 0 < length cs → is_white (get_or cs 0 0) ≡ false → starts_with nat_eq cs (codes "--") ≡ false →
    starts_with nat_eq cs (codes "/-") ≡ true → piece_at cs ≡ comment_at cs
piece_comment cs l e s t =
    piece_black cs l e
    ∙ if_false (starts_with nat_eq cs (codes "--")) (None, prefix_len (λ x. not (is_line_feed x)) cs)
    (cond (starts_with nat_eq cs (codes "/-")) (comment_at cs) (token_at cs)) s
    ∙ if_true (starts_with nat_eq cs (codes "/-")) (comment_at cs) (token_at cs) t

pub piece_token : (cs : List ℕ) → 0 < length cs → is_white (get_or cs 0 0) ≡ false → starts_with nat_eq cs (codes "--") ≡ false →
    starts_with nat_eq cs (codes "/-") ≡ false → piece_at cs ≡ token_at cs
piece_token cs l e s t =
    piece_black cs l e
    ∙ if_false (starts_with nat_eq cs (codes "--")) (None, prefix_len (λ x. not (is_line_feed x)) cs)
    (cond (starts_with nat_eq cs (codes "/-")) (comment_at cs) (token_at cs)) s
    ∙ if_false (starts_with nat_eq cs (codes "/-")) (comment_at cs) (token_at cs) t

-- a line comment has characters
pub line_some : (cs : List ℕ) → starts_with nat_eq cs (codes "--") ≡ true → 0 < prefix_len (λ x. not (is_line_feed x)) cs
line_some [] e = cc
line_some (c ∷ cs) e =
    let same : codes "--" ≡ take 2 (c ∷ cs) = (bytes_eq-Decides (codes "--") (take 2 (c ∷ cs))).0 e in
    let dash : 45 ≡ c = cc in
    subst (λ (x : ℕ). 0 < cond (not (is_line_feed x)) (1 + prefix_len (λ y. not (is_line_feed y)) cs) 0) dash (omega arith)

pub comment_two : (cs : List ℕ) → starts_with nat_eq cs (codes "/-") ≡ true → 2 ≤ length cs
comment_two [] e = cc
comment_two (c ∷ []) e = let same : codes "/-" ≡ take 2 (c ∷ []) = (bytes_eq-Decides (codes "/-") (take 2 (c ∷ []))).0 e in cc
comment_two (c ∷ d ∷ cs) e = omega arith

pub comment_some : (cs : List ℕ) (n : ℕ) → through 0 (drop 2 cs) ≡ Some n → comment_at cs ≡ (None, n + 2)
comment_some cs n e = ap (λ (o : Option ℕ). unwrap_or (option_map (λ k. (None, k + 2)) o) (Some kind.OpenComment, length cs)) e

pub comment_none : (cs : List ℕ) → through 0 (drop 2 cs) ≡ None → comment_at cs ≡ (Some kind.OpenComment, length cs)
comment_none cs e = ap (λ (o : Option ℕ). unwrap_or (option_map (λ k. (None, k + 2)) o) (Some kind.OpenComment, length cs)) e
