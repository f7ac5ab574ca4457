-- The tokens of a text of axioms: at each place the longest.
use Rattle.std.specs.Prelude.{
  ◌≡◌,
  ℕ,
  ◌+◌,
  ◌*◌,
  ◌-◌,
  ◌≤◌,
  ◌<◌,
  List,
  [],
  ◌∷◌,
  length,
  take,
  drop,
  Bool,
  true,
  false,
  ◌||◌,
  ◌&&◌,
  ◌==◌,
  nat_le,
  nat_lt,
  if◌then◌else◌,
  codes,
}
use Rattle.std.specs.List.{list_all, list_any, prefix_len}
use Rattle.std.specs.Char.{is_ascii_alphabetic, is_ascii_digit}
use Rattle.std.specs.Str.{bytes_eq}
use Rattle.lf_core.specs.Term.{Path}
use Rattle.lf_front.specs.declared.token.Token.{Token}
use Rattle.lf_front.specs.declared.token.Token.TheVariants as token

abbrev pub is_white : ℕ → Bool
is_white c = (c == 32) || ((c == 9) || ((c == 10) || (c == 13)))

unfoldable pub is_digit : ℕ → Bool
is_digit c = is_ascii_digit c

-- An ASCII letter or an underscore begins a part of an identifier.
unfoldable pub starts : ℕ → Bool
starts c = (c == 95) || is_ascii_alphabetic c

abbrev pub goes_on : ℕ → Bool
goes_on c = starts c || is_digit c

abbrev pub is_ascii : ℕ → Bool
is_ascii c = nat_lt c 128

abbrev pub part_next : List ℕ → Bool
part_next [] = false
part_next (c ∷ cs) = starts c

-- An identifier goes on with this character: inside a part, or with a dot that a part follows.
abbrev pub goes_over : ℕ → List ℕ → Bool
goes_over c cs = goes_on c || ((c == 46) && part_next cs)

-- The rest of an identifier.
abbrev pub is_tail : List ℕ → Bool
is_tail [] = true
is_tail (c ∷ cs) = goes_over c cs && is_tail cs

-- `→`, `∀` and `->`.
abbrev pub arrow : List ℕ
arrow = 226 ∷ 134 ∷ 146 ∷ []

abbrev pub for_all : List ℕ
for_all = 226 ∷ 136 ∷ 128 ∷ []

-- A symbol, or an error of one byte.
abbrev pub is_symbol : List ℕ → Bool
is_symbol cs = (length cs == 1) || (bytes_eq cs arrow || (bytes_eq cs for_all || bytes_eq cs (codes "->")))

-- A lexeme that begins with a letter is an identifier: parts joined by dots. One that begins with a digit is a number, with the letters
-- that stand directly behind it.
abbrev pub is_lexeme : List ℕ → Bool
is_lexeme [] = false
is_lexeme (c ∷ cs) = if starts c then is_tail cs else (if is_digit c then list_all goes_on cs else is_symbol (c ∷ cs))

-- Words that are no identifiers: those that begin a command, those that begin a command which isn't there, and the others.
abbrev pub command_words : List (List ℕ)
command_words = codes "axiom" ∷ codes "def" ∷ codes "theorem" ∷ codes "inductive" ∷ codes "namespace" ∷ codes "section" ∷ codes "end" ∷ codes "open"
    ∷ codes "universe" ∷ codes "variable" ∷ []

abbrev pub left_out_words : List (List ℕ)
left_out_words = codes "abbrev" ∷ codes "attribute" ∷ codes "class" ∷ codes "deriving" ∷ codes "example" ∷ codes "import" ∷ codes "instance" ∷ codes "macro"
    ∷ codes "mutual" ∷ codes "noncomputable" ∷ []

abbrev pub more_left_out_words : List (List ℕ)
more_left_out_words = codes "notation" ∷ codes "opaque" ∷ codes "partial" ∷ codes "private" ∷ codes "protected" ∷ codes "set_option" ∷ codes "structure"
    ∷ codes "syntax" ∷ codes "unsafe" ∷ []

abbrev pub other_words : List (List ℕ)
other_words = codes "fun" ∷ codes "let" ∷ codes "by" ∷ codes "where" ∷ codes "sorry" ∷ codes "_" ∷ []

abbrev pub is_one_of : List (List ℕ) → List ℕ → Bool
is_one_of words cs = list_any (bytes_eq cs) words

abbrev pub is_reserved : List ℕ → Bool
is_reserved cs = is_one_of command_words cs || (is_one_of left_out_words cs || (is_one_of more_left_out_words cs || is_one_of other_words cs))

abbrev pub onto_first : ℕ → Path → Path
onto_first c [] = (c ∷ []) ∷ []
onto_first c (part ∷ parts) = (c ∷ part) ∷ parts

-- The parts between the dots.
abbrev pub parts_of : List ℕ → Path
parts_of [] = [] ∷ []
parts_of (c ∷ cs) = if c == 46 then [] ∷ parts_of cs else onto_first c (parts_of cs)

abbrev pub word_token : List ℕ → Token
word_token cs = if bytes_eq cs (codes "axiom") then token.Axiom
    else (if bytes_eq cs (codes "forall") then token.Forall
    else (if bytes_eq cs (codes "Prop") then token.Prop
    else (if bytes_eq cs (codes "Type") then token.Type
    else (if bytes_eq cs (codes "Sort") then token.Sort
    else (if is_reserved cs then token.Other else token.Ident (parts_of cs))))))

-- The value of the digits behind those that are worth n.
abbrev pub value_after : ℕ → List ℕ → ℕ
value_after n [] = n
value_after n (c ∷ cs) = value_after (10 * n + (c - 48)) cs

-- A numeral is at most 32.
abbrev pub number_token : List ℕ → Token
number_token cs = if list_all is_digit cs && nat_le (value_after 0 cs) 32 then token.Number (value_after 0 cs) else token.Other

abbrev pub symbol_token : List ℕ → Token
symbol_token cs = if bytes_eq cs (codes ":") then token.Colon
    else (if bytes_eq cs (codes "(") then token.Open
    else (if bytes_eq cs (codes ")") then token.Close
    else (if bytes_eq cs (codes ",") then token.Comma
    else (if bytes_eq cs arrow || bytes_eq cs (codes "->") then token.Arrow
    else (if bytes_eq cs for_all then token.Forall else token.Other)))))

-- What a lexeme is.
abbrev pub token_of : List ℕ → Token
token_of [] = token.Other
token_of (c ∷ cs) = if starts c then word_token (c ∷ cs) else (if is_digit c then number_token (c ∷ cs) else symbol_token (c ∷ cs))

-- n is the length of the longest front that passes the test.
pub record IsLongest (test : List ℕ → Bool) (cs : List ℕ) (n : ℕ) : Type 0 where
  pub within : n ≤ length cs
  pub passes : test (take n cs) ≡ true
  pub longest : (m : ℕ) → m ≤ length cs → test (take m cs) ≡ true → m ≤ n

abbrev pub past_white : List ℕ → List ℕ
past_white cs = drop (prefix_len is_white cs) cs

-- The tokens of the bytes: white space, the longest lexeme behind it, and the tokens of the rest.
abbrev pub Tokens : List ℕ → List Token → Type 0
Tokens cs [] = past_white cs ≡ []
Tokens cs (t ∷ ts) = (n : ℕ) × (0 < n) × IsLongest is_lexeme (past_white cs) n × (t ≡ token_of (take n (past_white cs))) × Tokens (drop n (past_white cs)) ts
