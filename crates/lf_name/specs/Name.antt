-- Names as plain data: the bytes of each part, from the left.
use Rattle.std.specs.Prelude.{ℕ, List}

abbrev pub Path : Type 0
Path = List (List ℕ)
