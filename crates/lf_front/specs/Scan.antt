-- How far the scanner goes at each kind of lexeme.
use Rattle.std.specs.Prelude.{ℕ, ◌+◌, List, [], ◌∷◌, take, ◌||◌, if◌then◌else◌, codes}
use Rattle.std.specs.Str.{bytes_eq}
use Rattle.lf_front.specs.Lexemes.{goes_over, arrow, for_all}

abbrev pub tail_len : List ℕ → ℕ
tail_len [] = 0
tail_len (c ∷ cs) = if goes_over c cs then tail_len cs + 1 else 0

abbrev pub symbol_len : List ℕ → ℕ
symbol_len cs = if bytes_eq (take 3 cs) arrow || bytes_eq (take 3 cs) for_all then 3 else (if bytes_eq (take 2 cs) (codes "->") then 2 else 1)
