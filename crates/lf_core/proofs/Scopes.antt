-- The bounds and the metavariable that are kept say whether a term is in scope.
use Rattle.std.proofs.Common.{◌≡◌, ℕ, suc, ◌≤◌, false, ◌||◌, refl, true≢false, arith}
use Rattle.std.proofs.lemmas.Bool.{or_parts, or_from}
use Rattle.lf_core.specs.Term.{Term, bound, free, meta, sort, const, app, lam, pi, letin, lit, proj}
use Rattle.lf_core.specs.Scope.{Scoped}
use Rattle.lf_core.specs.Summary.{loose_bound, free_bound, has_metavariable}

pub scoped_by : (d k : ℕ) (t : Term) → loose_bound t ≤ d → free_bound t ≤ k → has_metavariable t ≡ false → Scoped d k t
scoped_by d k (bound i) l f m = omega arith
scoped_by d k (free j) l f m = omega arith
scoped_by d k (meta j) l f m = absurd (true≢false m)
scoped_by d k (sort u) l f m = tt
scoped_by d k (const c ls) l f m = tt
scoped_by d k (app g a) l f m =
    let p = or_parts (has_metavariable g) (has_metavariable a) m in
    (scoped_by d k g (omega arith) (omega arith) p.0, scoped_by d k a (omega arith) (omega arith) p.1)
scoped_by d k (lam x a b) l f m =
    let p = or_parts (has_metavariable a) (has_metavariable b) m in
    (scoped_by d k a (omega arith) (omega arith) p.0, scoped_by (suc d) k b (omega arith) (omega arith) p.1)
scoped_by d k (pi x a b) l f m =
    let p = or_parts (has_metavariable a) (has_metavariable b) m in
    (scoped_by d k a (omega arith) (omega arith) p.0, scoped_by (suc d) k b (omega arith) (omega arith) p.1)
scoped_by d k (letin x a v b) l f m =
    let p = or_parts (has_metavariable a) (has_metavariable v || has_metavariable b) m in
    let q = or_parts (has_metavariable v) (has_metavariable b) p.1 in
    (scoped_by d k a (omega arith) (omega arith) p.0, scoped_by d k v (omega arith) (omega arith) q.0, scoped_by (suc d) k b (omega arith) (omega arith) q.1)
scoped_by d k (lit n) l f m = tt
scoped_by d k (proj s i t) l f m = scoped_by d k t l f m

pub scoped_loose : (d k : ℕ) (t : Term) → Scoped d k t → loose_bound t ≤ d
scoped_loose d k (bound i) h = omega arith
scoped_loose d k (free j) h = omega arith
scoped_loose d k (meta j) h = absurd h
scoped_loose d k (sort u) h = omega arith
scoped_loose d k (const c ls) h = omega arith
scoped_loose d k (app g a) h = omega (arith, scoped_loose d k g h.0, scoped_loose d k a h.1)
scoped_loose d k (lam x a b) h = omega (arith, scoped_loose d k a h.0, scoped_loose (suc d) k b h.1)
scoped_loose d k (pi x a b) h = omega (arith, scoped_loose d k a h.0, scoped_loose (suc d) k b h.1)
scoped_loose d k (letin x a v b) h = omega (arith, scoped_loose d k a h.0, scoped_loose d k v h.1, scoped_loose (suc d) k b h.2)
scoped_loose d k (lit n) h = omega arith
scoped_loose d k (proj s i t) h = scoped_loose d k t h

pub scoped_free : (d k : ℕ) (t : Term) → Scoped d k t → free_bound t ≤ k
scoped_free d k (bound i) h = omega arith
scoped_free d k (free j) h = omega arith
scoped_free d k (meta j) h = absurd h
scoped_free d k (sort u) h = omega arith
scoped_free d k (const c ls) h = omega arith
scoped_free d k (app g a) h = omega (arith, scoped_free d k g h.0, scoped_free d k a h.1)
scoped_free d k (lam x a b) h = omega (arith, scoped_free d k a h.0, scoped_free (suc d) k b h.1)
scoped_free d k (pi x a b) h = omega (arith, scoped_free d k a h.0, scoped_free (suc d) k b h.1)
scoped_free d k (letin x a v b) h = omega (arith, scoped_free d k a h.0, scoped_free d k v h.1, scoped_free (suc d) k b h.2)
scoped_free d k (lit n) h = omega arith
scoped_free d k (proj s i t) h = scoped_free d k t h

pub scoped_complete : (d k : ℕ) (t : Term) → Scoped d k t → has_metavariable t ≡ false
scoped_complete d k (bound i) h = refl
scoped_complete d k (free j) h = refl
scoped_complete d k (meta j) h = absurd h
scoped_complete d k (sort u) h = refl
scoped_complete d k (const c ls) h = refl
scoped_complete d k (app g a) h = or_from (has_metavariable g) (has_metavariable a) (scoped_complete d k g h.0) (scoped_complete d k a h.1)
scoped_complete d k (lam x a b) h = or_from (has_metavariable a) (has_metavariable b) (scoped_complete d k a h.0) (scoped_complete (suc d) k b h.1)
scoped_complete d k (pi x a b) h = or_from (has_metavariable a) (has_metavariable b) (scoped_complete d k a h.0) (scoped_complete (suc d) k b h.1)
scoped_complete d k (letin x a v b) h =
    or_from (has_metavariable a) (has_metavariable v || has_metavariable b) (scoped_complete d k a h.0)
    (or_from (has_metavariable v) (has_metavariable b) (scoped_complete d k v h.1) (scoped_complete (suc d) k b h.2))
scoped_complete d k (lit n) h = refl
scoped_complete d k (proj s i t) h = scoped_complete d k t h
