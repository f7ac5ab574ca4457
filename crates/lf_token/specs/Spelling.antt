use Rattle.std.specs.Prelude.{ℕ, List, length}
use Rattle.std.specs.Str.{encode_utf8_all}

-- how many bytes the characters have
abbrev pub width : List ℕ → ℕ
width cs = length (encode_utf8_all cs)
