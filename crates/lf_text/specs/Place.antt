use Rattle.std.specs.Prelude.{ℕ, ◌+◌, ◌≤◌, ◌==◌, Bool, List, length, take, count_by}
use Rattle.std.specs.List.{after_last}
use Rattle.std.specs.Str.{chars, IsUtf8, IsValidUpTo}

-- a line feed, U+000A
abbrev pub is_line_feed : ℕ → Bool
is_line_feed c = c == 10

-- the line of a place: 1 plus the number of line feeds before it
abbrev pub line_of : List ℕ → ℕ → ℕ
line_of bytes at = 1 + count_by is_line_feed (take at bytes)

-- the column of a place: the number of characters since the last line feed before it
abbrev pub column_of : List ℕ → ℕ → ℕ
column_of bytes at = length (chars (after_last is_line_feed (take at bytes)))

-- the bytes, at most so many, aren't UTF-8, and the first `at` of them are their longest front that is
abbrev pub StopsBeingUtf8 : ℕ → List ℕ → ℕ → Type 0
StopsBeingUtf8 largest bytes at = (length bytes ≤ largest) × ¬ (IsUtf8 bytes) × IsValidUpTo bytes at
