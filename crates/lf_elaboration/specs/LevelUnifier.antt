-- Unification of levels. Without metavariables they are compared under every assignment; a metavariable is assigned where it doesn't stand in
-- the other; successors and equal forms by their parts.
use Rattle.std.specs.Prelude.{ℕ, zero, suc, Bool, true, false, ◌||◌, nat_eq, Option, Some, None, List, [], ◌∷◌}
use Rattle.lf_core.specs.Term.{Universe, level_zero, level_succ, level_max, level_imax, level_param, level_meta}
use Rattle.lf_core.specs.Summary.{level_has_metavariable}
use Rattle.lf_checker.specs.LevelTest.{is_same}
use Rattle.lf_checker.specs.Whnf.{turn_limit}
use Rattle.lf_elaboration.specs.Forms.{Sides, as_successor, as_maximum, as_impredicative_maximum, as_level_metavariable}
use Rattle.lf_elaboration.specs.Metavariables.{Changes, put_level}
use Rattle.lf_elaboration.specs.Run.{Run, ◌>>=◌, gives, gives_up, choose, reading, assign_level}

abbrev pub and_then : Bool → Run Changes Bool → Run Changes Bool
and_then true m = m
and_then false m = gives false

-- Parts of two levels, in order.
abbrev pub by_both : (Universe → Universe → Run Changes Bool) → Option Sides → Option Sides → Run Changes Bool
by_both part (Some s) (Some t) = do
  r ← part s.left t.left
  and_then r (part s.right t.right)
by_both part (Some s) None = gives false
by_both part None t = gives false

abbrev pub by_successors : (Universe → Universe → Run Changes Bool) → Option Universe → Option Universe → Run Changes Bool
by_successors part (Some l) (Some m) = part l m
by_successors part (Some l) None = gives false
by_successors part None m = gives false

-- Levels of one form by their parts.
abbrev pub by_level_parts : (Universe → Universe → Run Changes Bool) → Universe → Universe → Run Changes Bool
by_level_parts part (level_succ l) m = by_successors part (Some l) (as_successor m)
by_level_parts part (level_max l k) m = by_both part (Some (record { left = l; right = k })) (as_maximum m)
by_level_parts part (level_imax l k) m = by_both part (Some (record { left = l; right = k })) (as_impredicative_maximum m)
by_level_parts part level_zero m = gives false
by_level_parts part (level_param k) m = gives false
by_level_parts part (level_meta k) m = gives false

-- Two levels with their assigned metavariables put in; the parts may have more that are assigned meanwhile. The left one is assigned first.
abbrev pub by_level_form : (Universe → Universe → Run Changes Bool) → Universe → Universe → Option ℕ → Option ℕ → Run Changes Bool
by_level_form part l m (Some j) (Some k) = choose (nat_eq j k) (gives true) (assign_level j m)
by_level_form part l m (Some j) None = assign_level j m
by_level_form part l m None (Some k) = assign_level k l
by_level_form part l m None None = by_level_parts part l m

abbrev pub level_rule : (Universe → Universe → Run Changes Bool) → Universe → Universe → Run Changes Bool
level_rule part l m = choose (level_has_metavariable l || level_has_metavariable m)
    (by_level_form part l m (as_level_metavariable l) (as_level_metavariable m)) (gives (is_same l m))

-- Levels that are nested at most n deep.
abbrev pub unify_level_within : ℕ → Universe → Universe → Run Changes Bool
unify_level_within zero l m = gives_up
unify_level_within (suc n) l m = reading λ cs. level_rule (unify_level_within n) (put_level cs l) (put_level cs m)

abbrev pub unify_level : Universe → Universe → Run Changes Bool
unify_level l m = unify_level_within turn_limit l m

abbrev pub unify_levels : List Universe → List Universe → Run Changes Bool
unify_levels [] [] = gives true
unify_levels (l ∷ ls) (m ∷ ms) = do
  r ← unify_level l m
  and_then r (unify_levels ls ms)
unify_levels [] (m ∷ ms) = gives false
unify_levels (l ∷ ls) [] = gives false
