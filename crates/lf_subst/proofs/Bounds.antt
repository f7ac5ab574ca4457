-- Bounds on the depth and the number of nodes of an instance.
use Rattle.std.proofs.Common.{ℕ, suc, ◌+◌, ◌*◌, ◌≤◌, Bool, true, false, arith}
use Rattle.std.proofs.Math.Nat.{add-mul, le-mul_of_pos_right}
use Rattle.std.specs.Prelude.{nat_eq, if◌then◌else◌}
use Rattle.lf_core.specs.Term.{Term, bound, free, meta, sort, const, app, lam, pi, letin, lit, proj}
use Rattle.lf_core.specs.Size.{node_count, depth}
use Rattle.lf_core.specs.Substitution.{instantiate, instantiate_at}
use Rattle.lf_subst.proofs.Sizes.{variable_count_is, variable_depth_is}

pub some_depth : (t : Term) → 1 ≤ depth t
some_depth (bound i) = omega arith
some_depth (free k) = omega arith
some_depth (meta k) = omega arith
some_depth (sort l) = omega arith
some_depth (const c ls) = omega arith
some_depth (app f a) = omega arith
some_depth (lam x a b) = omega arith
some_depth (pi x a b) = omega arith
some_depth (letin x a v b) = omega arith
some_depth (lit n) = omega arith
some_depth (proj s i t) = omega arith

some_nodes : (t : Term) → 1 ≤ node_count t
some_nodes (bound i) = omega arith
some_nodes (free k) = omega arith
some_nodes (meta k) = omega arith
some_nodes (sort l) = omega arith
some_nodes (const c ls) = omega arith
some_nodes (app f a) = omega arith
some_nodes (lam x a b) = omega arith
some_nodes (pi x a b) = omega arith
some_nodes (letin x a v b) = omega arith
some_nodes (lit n) = omega arith
some_nodes (proj s i t) = omega arith

either_small : (b : Bool) (m n : ℕ) → 1 ≤ m → (if b then m else 1) ≤ m
either_small true m n h = omega arith
either_small false m n h = h

depth_from : (d : ℕ) (t arg : Term) → 1 ≤ depth arg → depth (instantiate_at d t arg) + 1 ≤ depth t + depth arg
depth_from d (bound i) arg h = let e = variable_depth_is d arg i in let p = either_small (nat_eq i d) (depth arg) 0 h in omega arith
depth_from d (free k) arg h = omega arith
depth_from d (meta k) arg h = omega arith
depth_from d (sort l) arg h = omega arith
depth_from d (const c ls) arg h = omega arith
depth_from d (app f a) arg h = let p = depth_from d f arg h in let q = depth_from d a arg h in omega arith
depth_from d (lam x a b) arg h = let p = depth_from d a arg h in let q = depth_from (suc d) b arg h in omega arith
depth_from d (pi x a b) arg h = let p = depth_from d a arg h in let q = depth_from (suc d) b arg h in omega arith
depth_from d (letin x a v b) arg h = let p = depth_from d a arg h in let q = depth_from d v arg h in let r = depth_from (suc d) b arg h in omega arith
depth_from d (lit n) arg h = omega arith
depth_from d (proj s i t) arg h = let p = depth_from d t arg h in omega arith

pub depth_at : (d : ℕ) (t arg : Term) → depth (instantiate_at d t arg) + 1 ≤ depth t + depth arg
depth_at d t arg = depth_from d t arg (some_depth arg)

-- what isn't changed has no more
pub leaf : (n a : ℕ) → 1 ≤ a → n ≤ n * a
leaf n a h = le-mul_of_pos_right n h

one : (m a x : ℕ) → 1 ≤ a → x ≤ m * a → x + 1 ≤ (m + 1) * a
one m a x h p = omega (arith, add-mul m 1 a)

pub two : (m n a x y : ℕ) → 1 ≤ a → x ≤ m * a → y ≤ n * a → x + y + 1 ≤ (m + n + 1) * a
two m n a x y h p q = omega (arith, add-mul (m + n) 1 a, add-mul m n a)

pub three : (m n k a x y z : ℕ) → 1 ≤ a → x ≤ m * a → y ≤ n * a → z ≤ k * a → x + y + z + 1 ≤ (m + n + k + 1) * a
three m n k a x y z h p q r = omega (arith, add-mul (m + n + k) 1 a, add-mul (m + n) k a, add-mul m n a)

count_at : (d : ℕ) (t arg : Term) → 1 ≤ node_count arg → node_count (instantiate_at d t arg) ≤ node_count t * node_count arg
count_at d (bound i) arg h = let e = variable_count_is d arg i in let p = either_small (nat_eq i d) (node_count arg) 0 h in omega arith
count_at d (free k) arg h = leaf 1 (node_count arg) h
count_at d (meta k) arg h = leaf 1 (node_count arg) h
count_at d (sort l) arg h = leaf _ (node_count arg) h
count_at d (const c ls) arg h = leaf _ (node_count arg) h
count_at d (app f a) arg h = two (node_count f) (node_count a) (node_count arg) _ _ h (count_at d f arg h) (count_at d a arg h)
count_at d (lam x a b) arg h = two (node_count a) (node_count b) (node_count arg) _ _ h (count_at d a arg h) (count_at (suc d) b arg h)
count_at d (pi x a b) arg h = two (node_count a) (node_count b) (node_count arg) _ _ h (count_at d a arg h) (count_at (suc d) b arg h)
count_at d (letin x a v b) arg h = three (node_count a) (node_count v) (node_count b) (node_count arg) _ _ _ h (count_at d a arg h) (count_at d v arg h)
    (count_at (suc d) b arg h)
count_at d (lit n) arg h = leaf 1 (node_count arg) h
count_at d (proj s i t) arg h = one (node_count t) (node_count arg) _ h (count_at d t arg h)

pub instance_count : (t arg : Term) → node_count (instantiate t arg) ≤ node_count t * node_count arg
instance_count t arg = count_at 0 t arg (some_nodes arg)
