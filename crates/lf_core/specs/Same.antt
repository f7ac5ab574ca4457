-- Whether two trees are the same, binder names and kinds included.
use Rattle.std.specs.Prelude.{Bool, true, false, ◌&&◌, ◌==◌, List, [], ◌∷◌}
pub use Rattle.lf_name.specs.Same.{same_path, same_kind, same_binder}
use Rattle.lf_core.specs.Term.{
  Universe,
  level_zero,
  level_succ,
  level_max,
  level_imax,
  level_param,
  level_meta,
  Term,
  bound,
  free,
  meta,
  sort,
  const,
  app,
  lam,
  pi,
  letin,
  lit,
  proj,
}

abbrev pub same_universe : Universe → Universe → Bool
same_universe level_zero level_zero = true
same_universe (level_succ l) (level_succ m) = same_universe l m
same_universe (level_max l m) (level_max j k) = same_universe l j && same_universe m k
same_universe (level_imax l m) (level_imax j k) = same_universe l j && same_universe m k
same_universe (level_param j) (level_param k) = j == k
same_universe (level_meta j) (level_meta k) = j == k
same_universe _ _ = false

abbrev pub same_universes : List Universe → List Universe → Bool
same_universes [] [] = true
same_universes (x ∷ xs) (y ∷ ys) = same_universe x y && same_universes xs ys
same_universes _ _ = false

abbrev pub same : Term → Term → Bool
same (bound j) (bound k) = j == k
same (free j) (free k) = j == k
same (meta j) (meta k) = j == k
same (sort l) (sort m) = same_universe l m
same (const c ls) (const d ms) = same_path c d && same_universes ls ms
same (app f a) (app g b) = same f g && same a b
same (lam x a b) (lam y c d) = same_binder x y && same a c && same b d
same (pi x a b) (pi y c d) = same_binder x y && same a c && same b d
same (letin x a v b) (letin y c w d) = same_binder x y && same a c && same v w && same b d
same (lit m) (lit n) = m == n
same (proj s i t) (proj r j u) = same_path s r && (i == j) && same t u
same _ _ = false
