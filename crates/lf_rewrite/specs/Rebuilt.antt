-- A term that isn't the part itself: its parts are replaced. A device of the code's shape.
use Rattle.std.specs.Prelude.{ℕ, suc, Bool, false, ◌||◌, nat_lt, if◌then◌else◌}
use Rattle.lf_core.specs.Term.{Term, bound, free, meta, sort, const, app, lam, pi, letin, lit, proj}
use Rattle.lf_elaboration.specs.Motive.{stands_in, replaced}

abbrev pub rebuilt : ℕ → Term → Term → Term
rebuilt d p (bound i) = if nat_lt i d then bound i else bound (suc i)
rebuilt d p (free k) = free k
rebuilt d p (meta k) = meta k
rebuilt d p (sort l) = sort l
rebuilt d p (const c ls) = const c ls
rebuilt d p (app f a) = app (replaced d p f) (replaced d p a)
rebuilt d p (lam x A b) = lam x (replaced d p A) (replaced (suc d) p b)
rebuilt d p (pi x A B) = pi x (replaced d p A) (replaced (suc d) p B)
rebuilt d p (letin x A v b) = letin x (replaced d p A) (replaced d p v) (replaced (suc d) p b)
rebuilt d p (lit n) = lit n
rebuilt d p (proj s i t) = proj s i (replaced d p t)

abbrev pub stands_below : Term → Term → Bool
stands_below p (bound i) = false
stands_below p (free k) = false
stands_below p (meta k) = false
stands_below p (sort l) = false
stands_below p (const c ls) = false
stands_below p (app f a) = stands_in p f || stands_in p a
stands_below p (lam x A b) = stands_in p A || stands_in p b
stands_below p (pi x A B) = stands_in p A || stands_in p B
stands_below p (letin x A v b) = stands_in p A || (stands_in p v || stands_in p b)
stands_below p (lit n) = false
stands_below p (proj s i t) = stands_in p t
