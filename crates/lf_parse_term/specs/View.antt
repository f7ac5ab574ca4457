-- Tokens as the grammar sees them.
use Rattle.std.specs.Prelude.{List, map}
use Rattle.lf_syntax.specs.Piece as syntax
use Rattle.lf_parse_term.specs.declared.piece.Class.{Class}
use Rattle.lf_parse_term.specs.declared.piece.Class.TheVariants.{Word, Name, Number, Operator, Wrong}
use Rattle.lf_parse_term.specs.declared.piece.Piece.{Piece}
use Rattle.lf_parse_term.specs.declared.piece.Spot.{Spot}

abbrev pub class_view : Class → syntax.Class
class_view (Word w) = syntax.word w
class_view (Name s x) = syntax.name s x
class_view (Number n digits) = syntax.number n digits
class_view (Operator o) = syntax.operator o
class_view (Wrong f) = syntax.wrong f

abbrev pub piece : syntax.Class → Spot → syntax.Piece
piece c s = record { class = c; at = s.at; «end» = s.«end»; nesting = s.nesting }

abbrev pub view : Piece → syntax.Piece
view p = piece (class_view p.class) p.spot

abbrev pub views : List Piece → List syntax.Piece
views ps = map view ps
