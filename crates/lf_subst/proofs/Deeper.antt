-- No substitution makes a term less deep.
use Rattle.std.proofs.Common.{ℕ, zero, suc, ◌≤◌, Bool, true, false, List, [], ◌∷◌, arith}
use Rattle.std.specs.Prelude.{map, nat_eq, slice_get, unwrap_or, if◌then◌else◌}
use Rattle.lf_core.specs.Term.{
  Universe,
  level_zero,
  level_succ,
  level_max,
  level_imax,
  level_param,
  level_meta,
  Term,
  bound,
  free,
  meta,
  sort,
  const,
  app,
  lam,
  pi,
  letin,
  lit,
  proj,
}
use Rattle.lf_core.specs.Size.{level_depth, levels_depth, depth}
use Rattle.lf_core.specs.Substitution.{level_substitute, level_instantiate, instantiate_at, instantiate}
use Rattle.lf_subst.proofs.Bounds.{some_depth}
use Rattle.lf_subst.proofs.Sizes.{variable_depth_is}

either_some : (b : Bool) (m : ℕ) → 1 ≤ m → 1 ≤ (if b then m else 1)
either_some true m h = h
either_some false m h = omega arith

deeper_at : (d : ℕ) (t arg : Term) → depth t ≤ depth (instantiate_at d t arg)
deeper_at d (bound i) arg = let e = variable_depth_is d arg i in let p = either_some (nat_eq i d) (depth arg) (some_depth arg) in omega arith
deeper_at d (free k) arg = omega arith
deeper_at d (meta k) arg = omega arith
deeper_at d (sort l) arg = omega arith
deeper_at d (const c ls) arg = omega arith
deeper_at d (app f a) arg = omega (arith, deeper_at d f arg, deeper_at d a arg)
deeper_at d (lam x a b) arg = omega (arith, deeper_at d a arg, deeper_at (suc d) b arg)
deeper_at d (pi x a b) arg = omega (arith, deeper_at d a arg, deeper_at (suc d) b arg)
deeper_at d (letin x a v b) arg = omega (arith, deeper_at d a arg, deeper_at d v arg, deeper_at (suc d) b arg)
deeper_at d (lit n) arg = omega arith
deeper_at d (proj s i t) arg = omega (arith, deeper_at d t arg)

pub instance_deeper : (t arg : Term) → depth t ≤ depth (instantiate t arg)
instance_deeper t arg = deeper_at 0 t arg

-- ---- Levels.

some_level : (l : Universe) → 1 ≤ level_depth l
some_level level_zero = omega arith
some_level (level_succ l) = omega arith
some_level (level_max l m) = omega arith
some_level (level_imax l m) = omega arith
some_level (level_param k) = omega arith
some_level (level_meta k) = omega arith

argument : (ls : List Universe) (k j : ℕ) → 1 ≤ level_depth (unwrap_or (slice_get ls k) (level_param j))
argument [] k j = omega arith
argument (l ∷ ls) zero j = some_level l
argument (l ∷ ls) (suc k) j = argument ls k j

level_deeper : (ls : List Universe) (l : Universe) → level_depth l ≤ level_depth (level_substitute ls l)
level_deeper ls level_zero = omega arith
level_deeper ls (level_succ l) = omega (arith, level_deeper ls l)
level_deeper ls (level_max l m) = omega (arith, level_deeper ls l, level_deeper ls m)
level_deeper ls (level_imax l m) = omega (arith, level_deeper ls l, level_deeper ls m)
level_deeper ls (level_param k) = argument ls k k
level_deeper ls (level_meta k) = omega arith

all_deeper : (ls ms : List Universe) → levels_depth ms ≤ levels_depth (map (level_substitute ls) ms)
all_deeper ls [] = omega arith
all_deeper ls (m ∷ ms) = omega (arith, level_deeper ls m, all_deeper ls ms)

pub levels_deeper : (ls : List Universe) (t : Term) → depth t ≤ depth (level_instantiate ls t)
levels_deeper ls (bound i) = omega arith
levels_deeper ls (free k) = omega arith
levels_deeper ls (meta k) = omega arith
levels_deeper ls (sort l) = omega (arith, level_deeper ls l)
levels_deeper ls (const c ms) = omega (arith, all_deeper ls ms)
levels_deeper ls (app f a) = omega (arith, levels_deeper ls f, levels_deeper ls a)
levels_deeper ls (lam x a b) = omega (arith, levels_deeper ls a, levels_deeper ls b)
levels_deeper ls (pi x a b) = omega (arith, levels_deeper ls a, levels_deeper ls b)
levels_deeper ls (letin x a v b) = omega (arith, levels_deeper ls a, levels_deeper ls v, levels_deeper ls b)
levels_deeper ls (lit n) = omega arith
levels_deeper ls (proj s i t) = omega (arith, levels_deeper ls t)
