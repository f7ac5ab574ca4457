-- Instantiation, abstraction and level substitution of locally nameless terms:
-- a bound variable is a de Bruijn index, a free one its place in the context.
-- The standard operations (de Bruijn 1972; Charguéraud 2012, "The Locally Nameless Representation").
use Rattle.std.specs.Prelude.{ℕ, suc, ◌+◌, ◌-◌, nat_eq, nat_lt, if◌then◌else◌, List, map, slice_get, unwrap_or}
use Rattle.lf_core.specs.Term.{
  Universe,
  level_zero,
  level_succ,
  level_max,
  level_imax,
  level_param,
  level_meta,
  Term,
  bound,
  free,
  meta,
  sort,
  const,
  app,
  lam,
  pi,
  letin,
  lit,
  proj,
}

-- t with n more binders round it: its loose bound variables from d on are raised by n.
abbrev pub raise : ℕ → ℕ → Term → Term
raise d n (bound i) = if nat_lt i d then bound i else bound (i + n)
raise d n (free k) = free k
raise d n (meta k) = meta k
raise d n (sort l) = sort l
raise d n (const c ls) = const c ls
raise d n (app f a) = app (raise d n f) (raise d n a)
raise d n (lam x a b) = lam x (raise d n a) (raise (suc d) n b)
raise d n (pi x a b) = pi x (raise d n a) (raise (suc d) n b)
raise d n (letin x a v b) = letin x (raise d n a) (raise d n v) (raise (suc d) n b)
raise d n (lit m) = lit m
raise d n (proj s i t) = proj s i (raise d n t)

-- A variable under d binders where the next binder outside them is taken away and arg put for its variable.
abbrev pub instantiate_variable : ℕ → Term → ℕ → Term
instantiate_variable d arg i = if nat_lt i d then bound i else (if nat_eq i d then raise 0 d arg else bound (i - 1))

abbrev pub instantiate_at : ℕ → Term → Term → Term
instantiate_at d (bound i) arg = instantiate_variable d arg i
instantiate_at d (free k) arg = free k
instantiate_at d (meta k) arg = meta k
instantiate_at d (sort l) arg = sort l
instantiate_at d (const c ls) arg = const c ls
instantiate_at d (app f a) arg = app (instantiate_at d f arg) (instantiate_at d a arg)
instantiate_at d (lam x a b) arg = lam x (instantiate_at d a arg) (instantiate_at (suc d) b arg)
instantiate_at d (pi x a b) arg = pi x (instantiate_at d a arg) (instantiate_at (suc d) b arg)
instantiate_at d (letin x a v b) arg = letin x (instantiate_at d a arg) (instantiate_at d v arg) (instantiate_at (suc d) b arg)
instantiate_at d (lit m) arg = lit m
instantiate_at d (proj s i t) arg = proj s i (instantiate_at d t arg)

-- The body of a binder with arg for its variable.
abbrev pub instantiate : Term → Term → Term
instantiate body arg = instantiate_at 0 body arg

abbrev pub abstract_at : ℕ → Term → ℕ → Term
abstract_at d (bound i) k = if nat_lt i d then bound i else bound (suc i)
abstract_at d (free j) k = if nat_eq j k then bound d else free j
abstract_at d (meta j) k = meta j
abstract_at d (sort l) k = sort l
abstract_at d (const c ls) k = const c ls
abstract_at d (app f a) k = app (abstract_at d f k) (abstract_at d a k)
abstract_at d (lam x a b) k = lam x (abstract_at d a k) (abstract_at (suc d) b k)
abstract_at d (pi x a b) k = pi x (abstract_at d a k) (abstract_at (suc d) b k)
abstract_at d (letin x a v b) k = letin x (abstract_at d a k) (abstract_at d v k) (abstract_at (suc d) b k)
abstract_at d (lit m) k = lit m
abstract_at d (proj s i t) k = proj s i (abstract_at d t k)

-- The body of a binder whose variable stands where t has Free(k); loose variables of t stay loose.
abbrev pub abstract : Term → ℕ → Term
abstract t k = abstract_at 0 t k

-- A level with an argument for each parameter; a parameter past the arguments stays.
abbrev pub level_substitute : List Universe → Universe → Universe
level_substitute ls level_zero = level_zero
level_substitute ls (level_succ l) = level_succ (level_substitute ls l)
level_substitute ls (level_max l m) = level_max (level_substitute ls l) (level_substitute ls m)
level_substitute ls (level_imax l m) = level_imax (level_substitute ls l) (level_substitute ls m)
level_substitute ls (level_param k) = unwrap_or (slice_get ls k) (level_param k)
level_substitute ls (level_meta k) = level_meta k

-- A term at these levels.
abbrev pub level_instantiate : List Universe → Term → Term
level_instantiate ls (bound i) = bound i
level_instantiate ls (free k) = free k
level_instantiate ls (meta k) = meta k
level_instantiate ls (sort l) = sort (level_substitute ls l)
level_instantiate ls (const c ms) = const c (map (level_substitute ls) ms)
level_instantiate ls (app f a) = app (level_instantiate ls f) (level_instantiate ls a)
level_instantiate ls (lam x a b) = lam x (level_instantiate ls a) (level_instantiate ls b)
level_instantiate ls (pi x a b) = pi x (level_instantiate ls a) (level_instantiate ls b)
level_instantiate ls (letin x a v b) = letin x (level_instantiate ls a) (level_instantiate ls v) (level_instantiate ls b)
level_instantiate ls (lit m) = lit m
level_instantiate ls (proj s i t) = proj s i (level_instantiate ls t)
