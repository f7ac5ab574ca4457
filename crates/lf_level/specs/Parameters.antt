-- The parameters that stand in levels.
use Rattle.std.specs.Prelude.{ℕ, nat_eq, if◌then◌else◌, List, [], ◌∷◌, ◌++◌}
use Rattle.std.specs.List.{list_any}
use Rattle.lf_core.specs.Term.{Universe, level_zero, level_succ, level_max, level_imax, level_param, level_meta}

abbrev pub HasNoMetavariable : Universe → Type 0
HasNoMetavariable level_zero = Unit {0}
HasNoMetavariable (level_succ l) = HasNoMetavariable l
HasNoMetavariable (level_max l m) = HasNoMetavariable l × HasNoMetavariable m
HasNoMetavariable (level_imax l m) = HasNoMetavariable l × HasNoMetavariable m
HasNoMetavariable (level_param k) = Unit {0}
HasNoMetavariable (level_meta k) = ⊥

-- Each occurrence of a parameter, from the left.
abbrev pub occurrences : Universe → List ℕ
occurrences level_zero = []
occurrences (level_succ l) = occurrences l
occurrences (level_max l m) = occurrences l ++ occurrences m
occurrences (level_imax l m) = occurrences l ++ occurrences m
occurrences (level_param k) = k ∷ []
occurrences (level_meta k) = []

-- `seen`, and then the numbers of a list that weren't there before, each once.
abbrev pub distinct_behind : List ℕ → List ℕ → List ℕ
distinct_behind seen [] = seen
distinct_behind seen (k ∷ ks) = distinct_behind (if list_any (λ j. nat_eq j k) seen then seen else seen ++ k ∷ []) ks

-- The distinct parameters of two levels together.
abbrev pub parameters_of : Universe → Universe → List ℕ
parameters_of l m = distinct_behind [] (occurrences l ++ occurrences m)
