use Rattle.std.specs.Prelude.{
  ℕ,
  zero,
  suc,
  ◌+◌,
  ◌-◌,
  ◌^◌,
  List,
  [],
  ◌∷◌,
  ◌++◌,
  length,
  take,
  drop,
  max,
  Bool,
  false,
  not,
  ◌||◌,
  ◌&&◌,
  ◌==◌,
  nat_le,
  nat_lt,
  nat_eq,
  if◌then◌else◌,
  Option,
  None,
  Some,
  is_some,
  unwrap_or,
  option_map,
  codes,
}
use Rattle.std.specs.Option.{option_to_list}
use Rattle.std.specs.List.{prefix_len, list_all, list_any, slice_split, starts_with}
use Rattle.std.specs.Str.{encode_utf8_all, chars}
use Rattle.std.specs.Str.Parse.{digits_value}
use Rattle.std.specs.Char.{len_utf8}
use Rattle.unicode_ident.specs.Ident.{is_xid_start, is_xid_continue}
use Rattle.lf_text.specs.declared.token.Token.{Token}
use Rattle.lf_text.specs.declared.token.TokenKind.{TokenKind}
use Rattle.lf_text.specs.declared.token.TokenKind.TheVariants.{Ident, Num, BadChar, OpenComment, BadNum, WideNum}
use Rattle.lf_text.specs.declared.word.Spelling.TheVariants.{Plain, Several}
use Rattle.lf_tables.specs.Rows.{value_of}
use Rattle.lf_text.specs.Words.{named, symbols}
use Rattle.lf_text.specs.Place.{is_line_feed}

-- white space but comments: space, U+0009, U+000A and U+000D
abbrev pub is_white : ℕ → Bool
is_white c = c == 32 || c == 9 || c == 10 || c == 13

abbrev pub is_digit : ℕ → Bool
is_digit c = nat_le 48 c && nat_le c 57

-- λ, Π, Σ and U+00B7 are in no part
abbrev pub is_apart : ℕ → Bool
is_apart c = c == 955 || c == 928 || c == 931 || c == 183

-- a part of an identifier starts with `_` or a character that is XID_Start
unfoldable pub starts_part : ℕ → Bool
starts_part c = (c == 95 || is_xid_start c) && not (is_apart c)

-- it goes on with XID_Continue, `'`, `!`, `?` or U+2080 to U+2089
unfoldable pub continues_part : ℕ → Bool
continues_part c = (is_xid_continue c || c == 39 || c == 33 || c == 63 || (nat_le 8320 c && nat_le c 8329)) && not (is_apart c)

abbrev pub is_part : List ℕ → Bool
is_part [] = false
is_part (c ∷ cs) = starts_part c && list_all continues_part cs

-- an identifier, or a reserved word: parts joined by dots
abbrev pub is_name : List ℕ → Bool
is_name cs = list_all is_part (slice_split (λ c. c == 46) cs)

abbrev pub is_numeral : List ℕ → Bool
is_numeral cs = nat_lt 0 (length cs) && list_all is_digit cs

-- digits, and directly after them a part
abbrev pub is_bad_numeral : List ℕ → Bool
is_bad_numeral cs = is_numeral (take (prefix_len is_digit cs) cs) && is_part (drop (prefix_len is_digit cs) cs)

-- what kind of token a name is: what the table says, else an identifier of one part or of several
abbrev pub name_kind : List ℕ → TokenKind
name_kind cs = unwrap_or (value_of (encode_utf8_all cs) named) (Ident (if list_any (λ c. c == 46) cs then Several else Plain))

-- what kind of token the characters are by themselves, if they are one
abbrev pub kind_of : List ℕ → Option TokenKind
kind_of cs =
    if is_name cs then Some (name_kind cs)
    else (if is_some (value_of (encode_utf8_all cs) symbols) then value_of (encode_utf8_all cs) symbols
    else (if is_numeral cs then Some (if nat_lt (digits_value 10 cs) (2 ^ 128) then Num (digits_value 10 cs) else WideNum)
    else (if is_bad_numeral cs then Some BadNum else None)))

-- the greatest length up to n at which the front of the characters passes the test, or 0
abbrev pub longest_up_to : (List ℕ → Bool) → List ℕ → ℕ → ℕ
longest_up_to test cs zero = 0
longest_up_to test cs (suc n) = if test (take (suc n) cs) then suc n else longest_up_to test cs n

-- the length of the longest front that is a token
abbrev pub longest_token : List ℕ → ℕ
longest_token cs = longest_up_to (λ front. is_some (kind_of front)) cs (length cs)

-- two characters that open or close a comment
pub data Mark : Type 0 where
  opens : Mark
  closes : Mark
  other : Mark

abbrev pub mark_of : ℕ → ℕ → Mark
mark_of a b = if a == 47 && b == 45 then opens else (if a == 45 && b == 47 then closes else other)

-- behind the opening of d + 1 comments: how many characters there are through the end of the first of them
abbrev pub through : ℕ → List ℕ → Option ℕ
through d [] = None
through d (a ∷ []) = None
through zero (a ∷ b ∷ cs) = elim (mark_of a b) [
  | opens ↦ option_map (λ n. n + 2) (through 1 cs)
  | closes ↦ Some 2
  | other ↦ option_map (λ n. n + 1) (through 0 (b ∷ cs))
]
through (suc d) (a ∷ b ∷ cs) = elim (mark_of a b) [
  | opens ↦ option_map (λ n. n + 2) (through (suc (suc d)) cs)
  | closes ↦ option_map (λ n. n + 2) (through d cs)
  | other ↦ option_map (λ n. n + 1) (through (suc d) (b ∷ cs))
]

-- what stands at the front, and how many characters it has: white space (None) or a token
abbrev pub comment_at : List ℕ → Option TokenKind × ℕ
comment_at cs = unwrap_or (option_map (λ n. (None, n + 2)) (through 0 (drop 2 cs))) (Some OpenComment, length cs)

abbrev pub token_at : List ℕ → Option TokenKind × ℕ
token_at cs = (Some (unwrap_or (kind_of (take (longest_token cs) cs)) BadChar), max (longest_token cs) 1)

abbrev pub piece_at : List ℕ → Option TokenKind × ℕ
piece_at [] = (None, 0)
piece_at (c ∷ cs) =
    if is_white c then (None, 1)
    else (if starts_with nat_eq (c ∷ cs) (codes "--") then (None, prefix_len (λ x. not (is_line_feed x)) (c ∷ cs))
    else (if starts_with nat_eq (c ∷ cs) (codes "/-") then comment_at (c ∷ cs)
    else token_at (c ∷ cs)))

-- the token of these characters, where they aren't white space; `at` bytes stand before
abbrev pub lexeme : ℕ → List ℕ → Option TokenKind → List Token
lexeme at cs kind = option_to_list (option_map (λ k. record { at = at; len = length (encode_utf8_all cs); kind = k }) kind)

-- the tokens of the characters but the layout tokens, in order; `at` bytes stand before, and
-- `inside` of the characters belong to what stands before
abbrev pub lexemes_from : ℕ → ℕ → List ℕ → List Token
lexemes_from at inside [] = []
lexemes_from at (suc inside) (c ∷ cs) = lexemes_from (at + len_utf8 c) inside cs
lexemes_from at zero (c ∷ cs) =
    let piece = piece_at (c ∷ cs) in
    lexeme at (take piece.1 (c ∷ cs)) piece.0 ++ lexemes_from (at + len_utf8 c) (piece.1 - 1) cs

-- the tokens of a text but the layout tokens
unfoldable pub lexemes_of : List ℕ → List Token
lexemes_of bytes = lexemes_from 0 0 (chars bytes)
