use Rattle.std.specs.Prelude.{ℕ, List, [], ◌∷◌, map, cond, Bool, true, ◌&&◌, Option, None, Some, length, bytes_eq, nat_eq, nat_lt}
use Rattle.std.specs.Borrow.{Bor}
use Rattle.std.specs.List.{starts_with}
use Rattle.std.specs.Ordering.{nat_cmp, is_lt}
use Rattle.std.specs.Cmp.Lexicographic.{slice_cmp}

-- a row: its key, as bytes, and its value
abbrev pub Row : Type 0 → Type 0
Row V = List ℕ × V

-- the rows as they are written in Rust
abbrev pub rows_of : {V : Type 0} → List (Bor (List ℕ) × V) → List (Row V)
rows_of rows = map (λ r. (r.0.now, r.1)) rows

-- the first key stands before the second, in the order of their bytes
abbrev pub is_before : List ℕ → List ℕ → Bool
is_before a b = is_lt (slice_cmp nat_cmp a b)

-- the keys are distinct and in the order of their bytes
abbrev pub keys_rise : {V : Type 0} → List (Row V) → Bool
keys_rise [] = true
keys_rise (r ∷ []) = true
keys_rise (r ∷ s ∷ rows) = is_before r.0 s.0 && keys_rise (s ∷ rows)

-- the value of the first row of this key
abbrev pub value_of : {V : Type 0} → List ℕ → List (Row V) → Option V
value_of key [] = None
value_of key (r ∷ rows) = cond (bytes_eq r.0 key) (Some r.1) (value_of key rows)

-- a row's key, by its length, and its value, where the text begins with the key
abbrev pub reached : {V : Type 0} → Row V → List ℕ → Option (ℕ × V)
reached r text = cond (starts_with nat_eq text r.0) (Some (length r.0, r.1)) None

-- the longer of two keys with their values, the first where they are as long
abbrev pub longer : {V : Type 0} → Option (ℕ × V) → Option (ℕ × V) → Option (ℕ × V)
longer None q = q
longer (Some p) None = Some p
longer (Some p) (Some q) = cond (nat_lt p.0 q.0) (Some q) (Some p)

-- the length and the value of the longest key that the text begins with
abbrev pub longest_of : {V : Type 0} → List (Row V) → List ℕ → Option (ℕ × V)
longest_of [] text = None
longest_of (r ∷ rows) text = longer (reached r text) (longest_of rows text)
