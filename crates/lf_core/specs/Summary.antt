-- What is kept beside the nodes of levels and terms.
use Rattle.std.specs.Prelude.{◌≡◌, ℕ, Bool, true, false, ◌||◌, ◌+◌, ◌-◌, max, List, [], ◌∷◌}
use Rattle.lf_core.specs.Term.{
  Universe,
  level_zero,
  level_succ,
  level_max,
  level_imax,
  level_param,
  level_meta,
  Term,
  bound,
  free,
  meta,
  sort,
  const,
  app,
  lam,
  pi,
  letin,
  lit,
  proj,
}
use Rattle.lf_core.specs.Size.{level_node_count, level_depth, node_count, depth}
use Rattle.lf_core.specs.declared.summary.LevelSummary.{LevelSummary}
use Rattle.lf_core.specs.declared.summary.Summary.{Summary}

-- Whether a metavariable stands in a level.
abbrev pub level_has_metavariable : Universe → Bool
level_has_metavariable level_zero = false
level_has_metavariable (level_succ l) = level_has_metavariable l
level_has_metavariable (level_max l m) = level_has_metavariable l || level_has_metavariable m
level_has_metavariable (level_imax l m) = level_has_metavariable l || level_has_metavariable m
level_has_metavariable (level_param k) = false
level_has_metavariable (level_meta k) = true

abbrev pub levels_have_metavariable : List Universe → Bool
levels_have_metavariable [] = false
levels_have_metavariable (l ∷ ls) = level_has_metavariable l || levels_have_metavariable ls

-- Whether a parameter stands in a level.
abbrev pub level_has_parameter : Universe → Bool
level_has_parameter level_zero = false
level_has_parameter (level_succ l) = level_has_parameter l
level_has_parameter (level_max l m) = level_has_parameter l || level_has_parameter m
level_has_parameter (level_imax l m) = level_has_parameter l || level_has_parameter m
level_has_parameter (level_param k) = true
level_has_parameter (level_meta k) = false

abbrev pub levels_have_parameter : List Universe → Bool
levels_have_parameter [] = false
levels_have_parameter (l ∷ ls) = level_has_parameter l || levels_have_parameter ls

-- One more than the greatest loose bound variable of a term; 0 where none is loose.
abbrev pub loose_bound : Term → ℕ
loose_bound (bound i) = i + 1
loose_bound (free k) = 0
loose_bound (meta k) = 0
loose_bound (sort l) = 0
loose_bound (const c ls) = 0
loose_bound (app f a) = max (loose_bound f) (loose_bound a)
loose_bound (lam x a b) = max (loose_bound a) (loose_bound b - 1)
loose_bound (pi x a b) = max (loose_bound a) (loose_bound b - 1)
loose_bound (letin x a v b) = max (loose_bound a) (max (loose_bound v) (loose_bound b - 1))
loose_bound (lit n) = 0
loose_bound (proj s i t) = loose_bound t

-- One more than the greatest free variable of a term; 0 where there is none.
abbrev pub free_bound : Term → ℕ
free_bound (bound i) = 0
free_bound (free k) = k + 1
free_bound (meta k) = 0
free_bound (sort l) = 0
free_bound (const c ls) = 0
free_bound (app f a) = max (free_bound f) (free_bound a)
free_bound (lam x a b) = max (free_bound a) (free_bound b)
free_bound (pi x a b) = max (free_bound a) (free_bound b)
free_bound (letin x a v b) = max (free_bound a) (max (free_bound v) (free_bound b))
free_bound (lit n) = 0
free_bound (proj s i t) = free_bound t

-- Whether a metavariable of terms stands in a term.
abbrev pub has_metavariable : Term → Bool
has_metavariable (bound i) = false
has_metavariable (free k) = false
has_metavariable (meta k) = true
has_metavariable (sort l) = false
has_metavariable (const c ls) = false
has_metavariable (app f a) = has_metavariable f || has_metavariable a
has_metavariable (lam x a b) = has_metavariable a || has_metavariable b
has_metavariable (pi x a b) = has_metavariable a || has_metavariable b
has_metavariable (letin x a v b) = has_metavariable a || (has_metavariable v || has_metavariable b)
has_metavariable (lit n) = false
has_metavariable (proj s i t) = has_metavariable t

-- Whether a metavariable of levels stands in a term.
abbrev pub has_level_metavariable : Term → Bool
has_level_metavariable (bound i) = false
has_level_metavariable (free k) = false
has_level_metavariable (meta k) = false
has_level_metavariable (sort l) = level_has_metavariable l
has_level_metavariable (const c ls) = levels_have_metavariable ls
has_level_metavariable (app f a) = has_level_metavariable f || has_level_metavariable a
has_level_metavariable (lam x a b) = has_level_metavariable a || has_level_metavariable b
has_level_metavariable (pi x a b) = has_level_metavariable a || has_level_metavariable b
has_level_metavariable (letin x a v b) = has_level_metavariable a || (has_level_metavariable v || has_level_metavariable b)
has_level_metavariable (lit n) = false
has_level_metavariable (proj s i t) = has_level_metavariable t

-- Whether a parameter stands in the levels of a term.
abbrev pub has_parameter : Term → Bool
has_parameter (bound i) = false
has_parameter (free k) = false
has_parameter (meta k) = false
has_parameter (sort l) = level_has_parameter l
has_parameter (const c ls) = levels_have_parameter ls
has_parameter (app f a) = has_parameter f || has_parameter a
has_parameter (lam x a b) = has_parameter a || has_parameter b
has_parameter (pi x a b) = has_parameter a || has_parameter b
has_parameter (letin x a v b) = has_parameter a || (has_parameter v || has_parameter b)
has_parameter (lit n) = false
has_parameter (proj s i t) = has_parameter t

-- The summary says what stands in the level.
pub record OfLevel (s : LevelSummary) (l : Universe) : Type 0 where
  pub nodes : s.nodes ≡ level_node_count l
  pub depth : s.depth ≡ level_depth l
  pub metavariable : s.metavariable ≡ level_has_metavariable l
  pub parameter : s.parameter ≡ level_has_parameter l

-- The summary says what stands in the term.
pub record OfTerm (s : Summary) (t : Term) : Type 0 where
  pub nodes : s.nodes ≡ node_count t
  pub depth : s.depth ≡ depth t
  pub loose : s.loose ≡ loose_bound t
  pub free : s.free ≡ free_bound t
  pub metavariable : s.metavariable ≡ has_metavariable t
  pub level_metavariable : s.level_metavariable ≡ has_level_metavariable t
  pub parameter : s.parameter ≡ has_parameter t
