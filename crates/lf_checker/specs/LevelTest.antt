-- Whether two levels are the same, or one at most the other, under every assignment, as tests (crate lf_level has the tests and their laws).
use Rattle.std.specs.Prelude.{Bool, true, false, ◌&&◌, ◌||◌, nat_lt, if◌then◌else◌, List, [], ◌∷◌, length}
use Rattle.lf_core.specs.Term.{Universe}
use Rattle.lf_core.specs.Same.{same_universe}
use Rattle.lf_core.specs.Size.{level_depth}
pub use Rattle.lf_core.specs.Summary.{level_has_metavariable as has_metavariable}
use Rattle.lf_level.specs.Parameters.{parameters_of}
use Rattle.lf_level.specs.Decision.{passes}

-- Both orders, for levels that the test is made for: at most 8 parameters together, at most 1,024 deep.
abbrev pub both_orders : Universe → Universe → Bool
both_orders l m = passes l m (parameters_of l m) [] (parameters_of l m) true && passes m l (parameters_of l m) [] (parameters_of l m) true

abbrev pub is_too_great : Universe → Universe → Bool
is_too_great l m = nat_lt 8 (length (parameters_of l m)) || (nat_lt 1024 (level_depth l) || nat_lt 1024 (level_depth m))

-- With a metavariable, the same tree.
unfoldable pub is_same : Universe → Universe → Bool
is_same l m = if has_metavariable l || has_metavariable m then same_universe l m else (if is_too_great l m then false else both_orders l m)

-- With a metavariable, only the same tree is known to be at most it.
unfoldable pub is_at_most : Universe → Universe → Bool
is_at_most l m = if has_metavariable l || has_metavariable m then same_universe l m else
    (if is_too_great l m then false else passes l m (parameters_of l m) [] (parameters_of l m) true)

abbrev pub are_same : List Universe → List Universe → Bool
are_same [] [] = true
are_same (l ∷ ls) (m ∷ ms) = is_same l m && are_same ls ms
are_same _ _ = false
