use Rattle.std.proofs.Common.{ℕ, ◌+◌, ◌*◌, ◌≡◌, ◌≤◌, List, ◌++◌, take}
use Rattle.lf_token.specs.Places.{IsAt}
use Rattle.lf_token.specs.Spelling.{width}
use Rattle.lf_token.proofs.place.past.Given as goal

abbrev pub invariant-characters : goal.invariant-characters
invariant-characters l = record {
  place : (before : List ℕ) → IsAt before l.fn.place → IsAt (before ++ take l.c-index l.cs) l.end;
  width : l.end.at ≡ l.fn.place.at + width (take l.c-index l.cs);
  at : l.end.at ≤ l.fn.place.at + 4 * l.c-index;
  line : l.end.line ≤ l.fn.place.line + l.c-index;
  column : l.end.column ≤ l.fn.place.column + l.c-index;
}
