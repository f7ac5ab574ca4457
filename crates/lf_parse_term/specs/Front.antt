-- What comes next.
use Rattle.std.specs.Prelude.{◌≡◌, ℕ, ◌+◌, List, [], ◌∷◌, length}
use Rattle.lf_syntax.specs.Piece as syntax
use Rattle.lf_text.specs.declared.word.Word as w
use Rattle.lf_syntax.specs.Row.{Row, on_word, on_operator, then}
use Rattle.lf_syntax.specs.Levels.{is_arrow}
use Rattle.lf_parse_term.specs.View.{piece, views}
use Rattle.lf_parse_term.specs.declared.piece.Piece.{Piece}
use Rattle.lf_parse_term.specs.declared.piece.Front.{Front}
use Rattle.lf_parse_term.specs.declared.piece.Front.TheVariants.{End, Word, Name, Number, Operator, Wrong}

abbrev pub front : Front → List syntax.Piece
front End = []
front (Word w s rest) = piece (syntax.word w) s ∷ views rest.now
front (Name k x s rest) = piece (syntax.name k x.now) s ∷ views rest.now
front (Number n d s rest) = piece (syntax.number n d) s ∷ views rest.now
front (Operator o s rest) = piece (syntax.operator o) s ∷ views rest.now
front (Wrong f s rest) = piece (syntax.wrong f) s ∷ views rest.now

-- One token fewer is left.
abbrev pub IsBehind : Front → List Piece → Type 0
IsBehind End ts = length ts ≡ 0
IsBehind (Word w s rest) ts = length ts ≡ length rest.now + 1
IsBehind (Name k x s rest) ts = length ts ≡ length rest.now + 1
IsBehind (Number n d s rest) ts = length ts ≡ length rest.now + 1
IsBehind (Operator o s rest) ts = length ts ≡ length rest.now + 1
IsBehind (Wrong f s rest) ts = length ts ≡ length rest.now + 1

abbrev pub word_rows : w.Word → List (Row ℕ)
word_rows w = on_word w (λ at. then [] at) ∷ []

abbrev pub arrow_rows : List (Row (Unit {0}))
arrow_rows = on_operator is_arrow (λ _. then [] tt) ∷ []
