-- Names as they stand in texts.
use Rattle.std.specs.Prelude.{ℕ, List, [], ◌∷◌, ◌++◌, flat_map, codes}
use Rattle.lf_name.specs.Name.{Path}

abbrev pub behind_dot : List ℕ → List ℕ
behind_dot part = codes "." ++ part

-- The parts of a name, joined by dots.
abbrev pub dotted : Path → List ℕ
dotted [] = []
dotted (part ∷ parts) = part ++ flat_map behind_dot parts

abbrev pub behind_comma : Path → List ℕ
behind_comma name = codes ", " ++ dotted name
