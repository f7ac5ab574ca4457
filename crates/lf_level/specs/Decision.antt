-- How the order of levels is decided: by finitely many assignments. The checker asks by it; that its answers are those of all assignments is a law of
-- lf_checker_laws.
use Rattle.std.specs.Prelude.{◌≡◌, ℕ, Bool, true, false, ◌&&◌, nat_eq, nat_le, ◌<◌, ◌≤◌, length, if◌then◌else◌, List, [], ◌∷◌, ◌++◌, Result, Ok, Err}
use Rattle.lf_core.specs.Term.{Universe}
use Rattle.lf_core.specs.Level.{Assignment, value_of}
use Rattle.lf_level.specs.Parameters.{distinct_behind, parameters_of}
use Rattle.lf_level.specs.declared.fault.LevelFault.{LevelFault}
use Rattle.lf_level.specs.declared.fault.LevelFault.TheVariants.{TooMany, NoMemory}

-- `seen` now has these too, or there are more than 8.
abbrev pub Collects : List ℕ → List ℕ → Result (Unit {0}) LevelFault → List ℕ → Type 0
Collects seen ks (Ok _) new = (new ≡ distinct_behind seen ks) × (length new ≤ 8)
Collects seen ks (Err TooMany) new = 8 < length (distinct_behind seen ks)
Collects seen ks (Err NoMemory) new = Unit {0}

-- The value at the place of the first name that is k, or 0.
abbrev pub assigned : List ℕ → List ℕ → ℕ → ℕ
assigned (n ∷ ns) (v ∷ vs) k = if nat_eq n k then v else assigned ns vs k
assigned _ _ k = 0

abbrev pub assignment : List ℕ → List ℕ → Assignment
assignment names values = record { parameter = assigned names values; metavariable = λ _. 0 }

-- Whether the order holds where the rest of the names have 0 or 1 each, or, if `far`, one of them a great number:
-- 1,025 is more than a level of depth 1,024 adds.
abbrev pub passes : Universe → Universe → List ℕ → List ℕ → List ℕ → Bool → Bool
passes u v names values [] far = nat_le (value_of (assignment names values) u) (value_of (assignment names values) v)
passes u v names values (_ ∷ rest) far =
    passes u v names (values ++ 0 ∷ []) rest far && passes u v names (values ++ 1 ∷ []) rest far &&
    (if far then passes u v names (values ++ 1025 ∷ []) rest false else true)

-- The distinct parameters of two levels, or there are more than 8.
abbrev pub Lists : Universe → Universe → Result (List ℕ) LevelFault → Type 0
Lists u v (Ok names) = (names ≡ parameters_of u v) × (length names ≤ 8)
Lists u v (Err TooMany) = 8 < length (parameters_of u v)
Lists u v (Err NoMemory) = Unit {0}
