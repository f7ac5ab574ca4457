-- The number of nodes of a term, and the nodes on its longest path.
use Rattle.std.specs.Prelude.{ℕ, ◌+◌, max, List, [], ◌∷◌}
use Rattle.lf_core.specs.Term.{
  Universe,
  level_zero,
  level_succ,
  level_max,
  level_imax,
  level_param,
  level_meta,
  Term,
  bound,
  free,
  meta,
  sort,
  const,
  app,
  lam,
  pi,
  letin,
  lit,
  proj,
}

abbrev pub level_node_count : Universe → ℕ
level_node_count level_zero = 1
level_node_count (level_succ l) = level_node_count l + 1
level_node_count (level_max l m) = level_node_count l + level_node_count m + 1
level_node_count (level_imax l m) = level_node_count l + level_node_count m + 1
level_node_count (level_param k) = 1
level_node_count (level_meta k) = 1

abbrev pub levels_node_count : List Universe → ℕ
levels_node_count [] = 0
levels_node_count (l ∷ ls) = level_node_count l + levels_node_count ls

abbrev pub node_count : Term → ℕ
node_count (bound k) = 1
node_count (free k) = 1
node_count (meta k) = 1
node_count (sort l) = level_node_count l + 1
node_count (const name ls) = levels_node_count ls + 1
node_count (app f a) = node_count f + node_count a + 1
node_count (lam x a b) = node_count a + node_count b + 1
node_count (pi x a b) = node_count a + node_count b + 1
node_count (letin x a v b) = node_count a + node_count v + node_count b + 1
node_count (lit n) = 1
node_count (proj s i t) = node_count t + 1

abbrev pub level_depth : Universe → ℕ
level_depth level_zero = 1
level_depth (level_succ l) = level_depth l + 1
level_depth (level_max l m) = max (level_depth l) (level_depth m) + 1
level_depth (level_imax l m) = max (level_depth l) (level_depth m) + 1
level_depth (level_param k) = 1
level_depth (level_meta k) = 1

abbrev pub levels_depth : List Universe → ℕ
levels_depth [] = 0
levels_depth (l ∷ ls) = max (level_depth l) (levels_depth ls)

abbrev pub depth : Term → ℕ
depth (bound k) = 1
depth (free k) = 1
depth (meta k) = 1
depth (sort l) = level_depth l + 1
depth (const name ls) = levels_depth ls + 1
depth (app f a) = max (depth f) (depth a) + 1
depth (lam x a b) = max (depth a) (depth b) + 1
depth (pi x a b) = max (depth a) (depth b) + 1
depth (letin x a v b) = max (depth a) (max (depth v) (depth b)) + 1
depth (lit n) = 1
depth (proj s i t) = depth t + 1
