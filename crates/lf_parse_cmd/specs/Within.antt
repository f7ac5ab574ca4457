-- Tokens that begin and end between two characters of a text.
use Rattle.std.specs.Prelude.{ℕ, ◌+◌, List}
use Rattle.std.specs.List.{All}
use Rattle.std.specs.Str.{IsCharBoundary}
use Rattle.lf_text.specs.declared.token.Token.{Token}

abbrev pub Within : List ℕ → Token → Type 0
Within bytes t = IsCharBoundary bytes t.at × IsCharBoundary bytes (t.at + t.len)

abbrev pub AllWithin : List ℕ → List Token → Type 0
AllWithin bytes tokens = All (Within bytes) tokens
