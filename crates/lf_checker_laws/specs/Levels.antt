-- The checker's tests of levels are exact: they pass where the levels are the same, or the first at most the second, under every assignment.
use Rattle.std.specs.Prelude.{◌≡◌, ◌↔◌, ◌≤◌, true, length}
use Rattle.lf_core.specs.Term.{Universe}
use Rattle.lf_core.specs.Level.{Leq, Same}
use Rattle.lf_core.specs.Size.{level_depth}
use Rattle.lf_level.specs.Parameters.{HasNoMetavariable, parameters_of}
use Rattle.lf_checker.specs.LevelTest.{is_same, is_at_most}

pub record LevelTestIsExact : Type 0 where
  -- whatever passes is the same
  pub sound : (l m : Universe) → is_same l m ≡ true → Same l m
  -- and without metavariables, within the limits, what is the same passes
  pub exact : (l m : Universe) → HasNoMetavariable l → HasNoMetavariable m → level_depth l ≤ 1024 → level_depth m ≤ 1024 → length (parameters_of l m) ≤ 8
      → (is_same l m ≡ true) ↔ Same l m
  pub sound_order : (l m : Universe) → is_at_most l m ≡ true → Leq l m
  pub exact_order : (l m : Universe) → HasNoMetavariable l → HasNoMetavariable m → level_depth l ≤ 1024 → level_depth m ≤ 1024 → length (parameters_of l m) ≤ 8
      → (is_at_most l m ≡ true) ↔ Leq l m
