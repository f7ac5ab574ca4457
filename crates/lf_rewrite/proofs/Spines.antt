-- How many arguments a term has.
use Rattle.std.proofs.Common.{◌≡◌, ℕ, ◌+◌, ◌<◌, List, [], ◌∷◌, length, arith}
use Rattle.lf_core.specs.Term.{Term, bound, free, meta, sort, const, app, lam, pi, letin, lit, proj}
use Rattle.lf_core.specs.Size.{depth}
use Rattle.lf_core.specs.Spine.{arguments_before, arguments_of}

before_length : (t : Term) (xs : List Term) → length (arguments_before t xs) ≡ length (arguments_of t) + length xs
before_length (app f a) xs =
    let h = before_length f (a ∷ xs) in
    let k = before_length f (a ∷ []) in
    omega (arith, h, k)
before_length (bound i) xs = omega arith
before_length (free k) xs = omega arith
before_length (meta k) xs = omega arith
before_length (sort l) xs = omega arith
before_length (const c ls) xs = omega arith
before_length (lam x A b) xs = omega arith
before_length (pi x A b) xs = omega arith
before_length (letin x A v b) xs = omega arith
before_length (lit n) xs = omega arith
before_length (proj s i t) xs = omega arith

pub count_more : (f a : Term) → length (arguments_of (app f a)) ≡ length (arguments_of f) + 1
count_more f a = before_length f (a ∷ [])

pub count_within : (t : Term) → length (arguments_of t) < depth t
count_within (app f a) =
    let h = count_within f in
    let k = count_more f a in
    omega (arith, h, k)
count_within (bound i) = omega arith
count_within (free k) = omega arith
count_within (meta k) = omega arith
count_within (sort l) = omega arith
count_within (const c ls) = omega arith
count_within (lam x A b) = omega arith
count_within (pi x A b) = omega arith
count_within (letin x A v b) = omega arith
count_within (lit n) = omega arith
count_within (proj s i t) = omega arith
