-- The classes of a text's tokens.
use Rattle.std.specs.Prelude.{ℕ, true, false, List, [], ◌∷◌, length, nat_eq, ◌+◌}
use Rattle.lf_name.specs.Name.{Path}
use Rattle.lf_syntax.specs.declared.leaf.SyntaxFault.TheVariants.{Char, Comment, Numeral, Wide}
use Rattle.lf_syntax.specs.Piece.{Class, word, name, number, operator, wrong, Piece}
use Rattle.lf_text.specs.declared.token.Token.{Token}
use Rattle.lf_text.specs.declared.token.TokenKind.{TokenKind}
use Rattle.lf_text.specs.declared.token.TokenKind.TheVariants as kind
use Rattle.lf_text.specs.Layout.{spelled}
use Rattle.lf_text.specs.Tokens.{tokens_of}
use Rattle.lf_text.specs.Nesting.{nesting_of, outermost}

-- The parts of a name between its full stops.
abbrev pub put_first : ℕ → Path → Path
put_first c [] = (c ∷ []) ∷ []
put_first c (w ∷ ws) = (c ∷ w) ∷ ws

abbrev pub parts_of : List ℕ → Path
parts_of [] = [] ∷ []
parts_of (c ∷ cs) = elim (nat_eq c 46) [ true ↦ [] ∷ parts_of cs | false ↦ put_first c (parts_of cs) ]

-- The class of a token of this text.
abbrev pub class_of : List ℕ → TokenKind → Class
class_of text (kind.Ident s) = name s (parts_of text)
class_of text (kind.Word w) = word w
class_of text (kind.Operator o) = operator o
class_of text (kind.Num n) = number n (length text)
class_of text kind.BadChar = wrong Char
class_of text kind.OpenComment = wrong Comment
class_of text kind.BadNum = wrong Numeral
class_of text kind.WideNum = wrong Wide

abbrev pub piece_of : List ℕ → Token → ℕ → Piece
piece_of bytes t n = record { class = class_of (spelled bytes t) t.kind; at = t.at; «end» = t.at + t.len; nesting = n }

-- Tokens with their nesting numbers.
abbrev pub pieces : List ℕ → List Token → List ℕ → List Piece
pieces bytes (t ∷ ts) (n ∷ ns) = piece_of bytes t n ∷ pieces bytes ts ns
pieces bytes _ _ = []

abbrev pub pieces_of : List ℕ → List Piece
pieces_of bytes = pieces bytes (tokens_of bytes) (nesting_of outermost (tokens_of bytes))
