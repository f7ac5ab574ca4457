use Rattle.std.specs.Prelude.{ℕ, ◌≡◌, ◌+◌, List, length, count_by}
use Rattle.std.specs.List.{after_last}
use Rattle.lf_text.specs.Place.{is_line_feed}
use Rattle.lf_token.specs.declared.place.Place.{Place}
use Rattle.lf_token.specs.Spelling.{width}

-- the place behind these characters of a text
pub record IsAt (before : List ℕ) (place : Place) : Type 0 where
  pub at : place.at ≡ width before
  pub line : place.line ≡ 1 + count_by is_line_feed before
  pub column : place.column ≡ length (after_last is_line_feed before)
