-- What universe levels are worth, and when one is below another.
-- Lean 4 reference manual, "Universes"; Carneiro 2019, 2.1: a level is judged by its value under every assignment.
use Rattle.std.specs.Prelude.{◌≡◌, ℕ, zero, suc, max, ◌≤◌, List, [], ◌∷◌}
use Rattle.lf_core.specs.Term.{Universe, level_zero, level_succ, level_max, level_imax, level_param, level_meta}

-- A natural number for each level parameter, and for each level metavariable.
pub record Assignment : Type 0 where
  pub parameter : ℕ → ℕ
  pub metavariable : ℕ → ℕ

-- The impredicative maximum: 0 where the second is 0, else the greater.
abbrev pub impredicative_max : ℕ → ℕ → ℕ
impredicative_max m zero = zero
impredicative_max m (suc n) = max m (suc n)

abbrev pub value_of : Assignment → Universe → ℕ
value_of s level_zero = zero
value_of s (level_succ l) = suc (value_of s l)
value_of s (level_max l m) = max (value_of s l) (value_of s m)
value_of s (level_imax l m) = impredicative_max (value_of s l) (value_of s m)
value_of s (level_param k) = s.parameter k
value_of s (level_meta k) = s.metavariable k

abbrev pub Leq : Universe → Universe → Type 0
Leq l m = (s : Assignment) → value_of s l ≤ value_of s m

abbrev pub Same : Universe → Universe → Type 0
Same l m = (s : Assignment) → value_of s l ≡ value_of s m

-- Two lists of levels, the same place by place.
abbrev pub AllSame : List Universe → List Universe → Type 0
AllSame [] [] = Unit {0}
AllSame (l ∷ ls) (m ∷ ms) = Same l m × AllSame ls ms
AllSame [] (m ∷ ms) = ⊥
AllSame (l ∷ ls) [] = ⊥
