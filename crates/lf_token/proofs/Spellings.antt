use Rattle.std.proofs.Common.{◌≡◌, ℕ, List, [], ◌∷◌, Bool, true, false, ◌&&◌, not, refl, sym, ap, ◌∙◌, subst, codes, map, take, ⊎_elim}
use Rattle.std.specs.Prelude.{bytes_eq, is_some}
use Rattle.std.specs.List.{list_all}
use Rattle.std.specs.Str.{encode_utf8_all}
use Rattle.std.proofs.lemmas.Slice.Eq.{bytes_eq-Decides}
use Rattle.std.proofs.lemmas.Str.{encodes_same}
use Rattle.unicode_ident.proofs.Computing.{unicode_ident}
use Rattle.lf_tables.specs.Rows.{value_of, longest_of}
use Rattle.lf_text.specs.Words.{symbols}
use Rattle.lf_text.specs.Lexemes.{is_digit, starts_part}
use Rattle.lf_token.specs.Spelling.{width}
use Rattle.lf_token.proofs.Logic.{or_cases, and_left, and_right}
use Rattle.lf_token.proofs.Symbols.{is_among, keys, found-keys, longest_of-keys, length_of, longest_in, longest_width}

-- the texts of the symbols, as characters
abbrev pub symbol_texts : List (List ℕ)
symbol_texts =
    map codes
    ("#check" ∷ "#eval" ∷ "#print" ∷ "#reduce" ∷ "%" ∷ "(" ∷ ")" ∷ "*" ∷ "+" ∷ "," ∷ "-" ∷ "->" ∷ ".{" ∷ "/" ∷
    "/\\" ∷ ":" ∷ ":=" ∷ ";" ∷ "<-" ∷ "<->" ∷ "=" ∷ "=>" ∷ "@" ∷ "@[" ∷ "[" ∷ "\\/" ∷ "]" ∷ "{" ∷ "|" ∷ "}" ∷
    "¬" ∷ "·" ∷ "λ" ∷ "←" ∷ "→" ∷ "↔" ∷ "↦" ∷ "∀" ∷ "∧" ∷ "∨" ∷ "≠" ∷ [])

pub symbols_are : keys symbols ≡ map encode_utf8_all symbol_texts
symbols_are = refl

-- what begins no name and no numeral
abbrev starts_symbol : List ℕ → Bool
starts_symbol [] = false
starts_symbol (c ∷ cs) = not (starts_part c) && not (is_digit c)

all_symbols : list_all starts_symbol symbol_texts ≡ true
unfolding starts_part unicode_ident
all_symbols = refl

-- a text that is among those whose characters pass a test passes it
among_passes : (p : List ℕ → Bool) (texts : List (List ℕ)) (cs : List ℕ) → list_all p texts ≡ true
    → is_among (map encode_utf8_all texts) (encode_utf8_all cs) ≡ true →
    p cs ≡ true
among_passes p [] cs all e = absurd (true_false e)
  where
    true_false : false ≡ true → ⊥
    true_false f = cc
among_passes p (text ∷ texts) cs all e =
    ⊎_elim
    (λ (here : bytes_eq (encode_utf8_all text) (encode_utf8_all cs) ≡ true).
    let same : text ≡ cs = encodes_same text cs ((bytes_eq-Decides (encode_utf8_all text) (encode_utf8_all cs)).0 here) in
    subst (λ (xs : List ℕ). p xs ≡ true) same (and_left (p text) (list_all p texts) all))
    (λ (later : is_among (map encode_utf8_all texts) (encode_utf8_all cs) ≡ true). among_passes p texts cs (and_right (p text) (list_all p texts) all) later)
    (or_cases (bytes_eq (encode_utf8_all text) (encode_utf8_all cs)) (is_among (map encode_utf8_all texts) (encode_utf8_all cs)) e)

-- the characters are a symbol
abbrev pub is_symbol : List ℕ → Bool
is_symbol cs = is_some (value_of (encode_utf8_all cs) symbols)

pub symbol_among : (cs : List ℕ) → is_symbol cs ≡ is_among (map encode_utf8_all symbol_texts) (encode_utf8_all cs)
symbol_among cs = found-keys symbols (encode_utf8_all cs)

-- a symbol starts as no name and no numeral does
pub symbol_starts : (c : ℕ) (cs : List ℕ) → is_symbol (c ∷ cs) ≡ true → not (starts_part c) && not (is_digit c) ≡ true
symbol_starts c cs e = among_passes starts_symbol symbol_texts (c ∷ cs) all_symbols (sym (symbol_among (c ∷ cs)) ∙ e)

-- the bytes of the longest symbol are those of so many characters
pub symbol_width : (cs rest : List ℕ) → rest ≡ encode_utf8_all cs → length_of (longest_of symbols rest) ≡ width (take (longest_in symbol_texts cs) cs)
symbol_width cs rest e = ap (λ bytes. length_of (longest_of symbols bytes)) e ∙ longest_of-keys symbols (encode_utf8_all cs) ∙ longest_width symbol_texts cs
