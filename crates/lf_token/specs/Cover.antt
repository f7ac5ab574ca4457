use Rattle.std.specs.Prelude.{◌≡◌, ℕ, ◌+◌, ◌-◌, List, [], ◌∷◌, ◌++◌, length, drop, true, not, Some, nat_eq, codes}
use Rattle.std.specs.List.{list_all, starts_with}
use Rattle.lf_text.specs.declared.token.Token.{Token}
use Rattle.lf_text.specs.Place.{is_line_feed}
use Rattle.lf_text.specs.Lexemes.{is_white, through}
use Rattle.lf_token.specs.Spelling.{width}

-- a piece of white space: a character of it, a comment to the end of its line, a comment through its own `-/`
pub data IsSpace : List ℕ → Type 0 where
  white : (c : ℕ) → is_white c ≡ true → IsSpace (c ∷ [])
  line : (cs : List ℕ) → starts_with nat_eq cs (codes "--") ≡ true → list_all (λ c. not (is_line_feed c)) cs ≡ true → IsSpace cs
  comment : (cs : List ℕ) → starts_with nat_eq cs (codes "/-") ≡ true → through 0 (drop 2 cs) ≡ Some (length cs - 2) → IsSpace cs

-- white space: such pieces
pub data IsBlank : List ℕ → Type 0 where
  none : IsBlank []
  more : (piece : List ℕ) → (rest : List ℕ) → IsSpace piece → IsBlank rest → IsBlank (piece ++ rest)

-- the characters, which have `at` bytes before them, are the texts of the tokens, each at its place,
-- and white space before, between and behind them
abbrev pub Covers : ℕ → List ℕ → List Token → Type 0
Covers at cs [] = IsBlank cs
Covers at cs (t ∷ tokens) =
    (gap : List ℕ) × (text : List ℕ) × (rest : List ℕ) × (cs ≡ gap ++ (text ++ rest)) × IsBlank gap
    × (t.at ≡ at + width gap) × (t.len ≡ width text) × Covers (t.at + t.len) rest tokens
