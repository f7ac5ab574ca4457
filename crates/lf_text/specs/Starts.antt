use Rattle.std.specs.Prelude.{ℕ, ◌+◌, ◌==◌, cond, List, [], ◌∷◌, ◌++◌}

-- the places behind the line feeds of bytes of which k stand before
abbrev pub line_starts : ℕ → List ℕ → List ℕ
line_starts k [] = []
line_starts k (b ∷ bytes) = cond (b == 10) ((k + 1) ∷ []) [] ++ line_starts (k + 1) bytes
