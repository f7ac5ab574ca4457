-- What is still to be printed, as a list of pieces: a device of the code.
use Rattle.std.specs.Prelude.{ℕ, List, [], ◌∷◌, ◌++◌, drop, slice_get, flat_map, decimal, map, reverse}
use Rattle.std.specs.Borrow.{Bor}
use Rattle.lf_core.specs.Term.{Path}
use Rattle.lf_print.specs.Mark.{mark_text}
use Rattle.lf_print.specs.Printed.{when, path_text, behind_dot, name_text, level_text, printed}
use Rattle.lf_print.specs.declared.piece.Piece.{Piece}
use Rattle.lf_print.specs.declared.piece.Piece.TheVariants.{Mark, When, Words, Rest, Word, Number, Bound, Free, Param, Level, Term, Open, Close}

-- Under these names of free variables, of levels, and of the binders that are open, the innermost first.
abbrev pub todo : List Path → List Path → List Path → List Piece → List ℕ
todo fs ls xs [] = []
todo fs ls xs (Mark m ∷ ps) = mark_text m ++ todo fs ls xs ps
todo fs ls xs (When b m ∷ ps) = when b m ++ todo fs ls xs ps
todo fs ls xs (Words ws ∷ ps) = path_text ws.now ++ todo fs ls xs ps
todo fs ls xs (Rest ws ∷ ps) = flat_map behind_dot ws.now ++ todo fs ls xs ps
todo fs ls xs (Word w ∷ ps) = w.now ++ todo fs ls xs ps
todo fs ls xs (Number n ∷ ps) = decimal n ++ todo fs ls xs ps
todo fs ls xs (Bound i ∷ ps) = name_text (slice_get xs i) ++ todo fs ls xs ps
todo fs ls xs (Free k ∷ ps) = name_text (slice_get fs k) ++ todo fs ls xs ps
todo fs ls xs (Param k ∷ ps) = name_text (slice_get ls k) ++ todo fs ls xs ps
todo fs ls xs (Level l part n ∷ ps) = level_text ls part n l.now ++ todo fs ls xs ps
todo fs ls xs (Term t p ∷ ps) = printed fs ls p xs t.now ++ todo fs ls xs ps
todo fs ls xs (Open x ∷ ps) = todo fs ls (x.now ∷ xs) ps
todo fs ls xs (Close ∷ ps) = todo fs ls (drop 1 xs) ps

-- The names of the open binders, the innermost first, of which the code keeps the innermost last.
abbrev pub open_names : List (Bor Path) → List Path
open_names ns = map (λ n. n.now) (reverse ns)
