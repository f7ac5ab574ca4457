-- A term at some levels is hardly deeper than the term and the deepest level, and has at most as many nodes as both counts multiplied.
use Rattle.std.proofs.Common.{ℕ, zero, suc, ◌+◌, ◌*◌, ◌≤◌, List, [], ◌∷◌, arith}
use Rattle.std.proofs.Math.Nat.{add-mul}
use Rattle.std.specs.Prelude.{map, max, slice_get, unwrap_or}
use Rattle.lf_core.specs.Term.{
  Universe,
  level_zero,
  level_succ,
  level_max,
  level_imax,
  level_param,
  level_meta,
  Term,
  bound,
  free,
  meta,
  sort,
  const,
  app,
  lam,
  pi,
  letin,
  lit,
  proj,
}
use Rattle.lf_core.specs.Size.{level_node_count, levels_node_count, node_count, level_depth, levels_depth, depth}
use Rattle.lf_core.specs.Substitution.{level_substitute, level_instantiate}
use Rattle.lf_subst.proofs.Bounds.{leaf, two, three}

-- ---- Depth, where m is at least 1 and that of each argument.

argument_depth : (ls : List Universe) (k j : ℕ) → level_depth (unwrap_or (slice_get ls k) (level_param j)) ≤ max 1 (levels_depth ls)
argument_depth [] k j = omega arith
argument_depth (l ∷ ls) zero j = omega arith
argument_depth (l ∷ ls) (suc k) j = omega (arith, argument_depth ls k j)

level_deep : (ls : List Universe) (l : Universe) → level_depth (level_substitute ls l) + 1 ≤ level_depth l + max 1 (levels_depth ls)
level_deep ls level_zero = omega arith
level_deep ls (level_succ l) = omega (arith, level_deep ls l)
level_deep ls (level_max l m) = omega (arith, level_deep ls l, level_deep ls m)
level_deep ls (level_imax l m) = omega (arith, level_deep ls l, level_deep ls m)
level_deep ls (level_param k) = omega (arith, argument_depth ls k k)
level_deep ls (level_meta k) = omega arith

levels_deep : (ls ms : List Universe) → levels_depth (map (level_substitute ls) ms) + 1 ≤ levels_depth ms + max 1 (levels_depth ls)
levels_deep ls [] = omega arith
levels_deep ls (m ∷ ms) = omega (arith, level_deep ls m, levels_deep ls ms)

pub term_deep : (ls : List Universe) (t : Term) → depth (level_instantiate ls t) + 1 ≤ depth t + max 1 (levels_depth ls)
term_deep ls (bound i) = omega arith
term_deep ls (free k) = omega arith
term_deep ls (meta k) = omega arith
term_deep ls (sort l) = omega (arith, level_deep ls l)
term_deep ls (const c ms) = omega (arith, levels_deep ls ms)
term_deep ls (app f a) = omega (arith, term_deep ls f, term_deep ls a)
term_deep ls (lam x a b) = omega (arith, term_deep ls a, term_deep ls b)
term_deep ls (pi x a b) = omega (arith, term_deep ls a, term_deep ls b)
term_deep ls (letin x a v b) = omega (arith, term_deep ls a, term_deep ls v, term_deep ls b)
term_deep ls (lit n) = omega arith
term_deep ls (proj s i t) = omega (arith, term_deep ls t)

-- ---- Nodes.

argument_nodes : (ls : List Universe) (k j : ℕ) → level_node_count (unwrap_or (slice_get ls k) (level_param j)) ≤ max 1 (levels_node_count ls)
argument_nodes [] k j = omega arith
argument_nodes (l ∷ ls) zero j = omega arith
argument_nodes (l ∷ ls) (suc k) j = omega (arith, argument_nodes ls k j)

most : (ls : List Universe) → 1 ≤ max 1 (levels_node_count ls)
most ls = omega arith

one : (n a x : ℕ) → 1 ≤ a → x ≤ n * a → x + 1 ≤ (n + 1) * a
one n a x h p = omega (arith, add-mul n 1 a)

both : (m n a x y : ℕ) → x ≤ m * a → y ≤ n * a → x + y ≤ (m + n) * a
both m n a x y p q = omega (arith, add-mul m n a)

single : (a x : ℕ) → x ≤ a → x ≤ 1 * a
single a x h = omega arith

level_many : (ls : List Universe) (l : Universe) → level_node_count (level_substitute ls l) ≤ level_node_count l * max 1 (levels_node_count ls)
level_many ls level_zero = leaf 1 _ (most ls)
level_many ls (level_succ l) = one (level_node_count l) _ _ (most ls) (level_many ls l)
level_many ls (level_max l m) = two (level_node_count l) (level_node_count m) _ _ _ (most ls) (level_many ls l) (level_many ls m)
level_many ls (level_imax l m) = two (level_node_count l) (level_node_count m) _ _ _ (most ls) (level_many ls l) (level_many ls m)
level_many ls (level_param k) = single _ _ (argument_nodes ls k k)
level_many ls (level_meta k) = leaf 1 _ (most ls)

levels_many : (ls ms : List Universe) → levels_node_count (map (level_substitute ls) ms) ≤ levels_node_count ms * max 1 (levels_node_count ls)
levels_many ls [] = omega arith
levels_many ls (m ∷ ms) = both (level_node_count m) (levels_node_count ms) _ _ _ (level_many ls m) (levels_many ls ms)

pub term_many : (ls : List Universe) (t : Term) → node_count (level_instantiate ls t) ≤ node_count t * max 1 (levels_node_count ls)
term_many ls (bound i) = leaf 1 _ (most ls)
term_many ls (free k) = leaf 1 _ (most ls)
term_many ls (meta k) = leaf 1 _ (most ls)
term_many ls (sort l) = one (level_node_count l) _ _ (most ls) (level_many ls l)
term_many ls (const c ms) = one (levels_node_count ms) _ _ (most ls) (levels_many ls ms)
term_many ls (app f a) = two (node_count f) (node_count a) _ _ _ (most ls) (term_many ls f) (term_many ls a)
term_many ls (lam x a b) = two (node_count a) (node_count b) _ _ _ (most ls) (term_many ls a) (term_many ls b)
term_many ls (pi x a b) = two (node_count a) (node_count b) _ _ _ (most ls) (term_many ls a) (term_many ls b)
term_many ls (letin x a v b) = three (node_count a) (node_count v) (node_count b) _ _ _ _ (most ls) (term_many ls a) (term_many ls v) (term_many ls b)
term_many ls (lit n) = leaf 1 _ (most ls)
term_many ls (proj s i t) = one (node_count t) _ _ (most ls) (term_many ls t)
