-- Which layers stay when an entry is pushed, by the sizes of all.
use Rattle.std.specs.Prelude.{ℕ, zero, suc, ◌+◌, ◌<◌, ◌≤◌, sum, List, [], ◌∷◌}

-- The last of the first k is longer than all behind it together with the new entry.
abbrev pub IsLonger : List ℕ → ℕ → Type 0
IsLonger xs zero = Unit {0}
IsLonger [] (suc k) = ⊥
IsLonger (x ∷ xs) (suc zero) = sum xs + 1 < x
IsLonger (x ∷ xs) (suc (suc k)) = IsLonger xs (suc k)

-- The one behind the first k isn't.
abbrev pub IsDue : List ℕ → ℕ → Type 0
IsDue [] k = Unit {0}
IsDue (x ∷ xs) zero = x ≤ sum xs + 1
IsDue (x ∷ xs) (suc k) = IsDue xs k
