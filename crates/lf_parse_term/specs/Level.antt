-- Levels that begin with `max` or `imax`, by the level's atom behind the word.
use Rattle.std.specs.Prelude.{List, [], ◌∷◌, Option, None, Some, Ok}
use Rattle.lf_syntax.specs.declared.leaf.Ident.{Ident}
use Rattle.lf_syntax.specs.Piece.{Piece}
use Rattle.lf_syntax.specs.Symbol.{Symbol, plus_option, level_atom, level_atoms}
use Rattle.lf_syntax.specs.Tree.{LevelTree, level_name, level_max, level_imax, levels_of}
use Rattle.lf_syntax.specs.Rows.{plus}
use Rattle.lf_parse_term.specs.Descent.{Reading, read, seq, behind, ◌>>=◌}

-- The word is a name of its own.
abbrev pub named : Ident → List Piece → Reading LevelTree
named x ts = seq (plus_option ∷ []) ts (λ m. plus x.at (level_name x) m)

abbrev pub max_of : Ident → Option LevelTree → List Piece → Reading LevelTree
max_of x None ts = named x ts
max_of x (Some k) ts =
    read level_atom ts >>= (λ l rest. behind (k ∷ l ∷ []) (read level_atoms rest) >>= (λ ks rest. Ok (level_max x.at (levels_of ks), rest)))

abbrev pub imax_of : Ident → Option LevelTree → List Piece → Reading LevelTree
imax_of x None ts = named x ts
imax_of x (Some k) ts = seq (level_atom ∷ []) ts (λ l. level_imax x.at k l)
