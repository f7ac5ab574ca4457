-- What is kept beside a term says whether it stands on its own.
use Rattle.std.proofs.Common.{◌≡◌, ℕ, suc, ◌+◌, ◌<◌, ◌≤◌, true, false, ◌&&◌, ◌||◌, nat_lt, refl, sym, ◌∙◌, true≢false, arith}
use Rattle.std.proofs.lemmas.Bool.{or_parts, or_from, and_parts, and_from, not_from_false, not-true, false_from_ne_true}
use Rattle.std.proofs.lemmas.Bool.Decides.{nat_tests}
use Rattle.lf_core.specs.Term.{Term, bound, free, meta, sort, const, app, lam, pi, letin, lit, proj}
use Rattle.lf_core.specs.Summary.{loose_bound, free_bound, has_metavariable, has_level_metavariable}
use Rattle.lf_checker.specs.Checker.{is_closed, is_closed_under}

below : (i d : ℕ) → i + 1 ≤ d → nat_lt i d ≡ true
below i d h = grind (arith, nat_tests)

pub closed_under : (d : ℕ) (t : Term) → loose_bound t ≤ d → free_bound t ≤ 0 → has_metavariable t ≡ false → has_level_metavariable t ≡ false
    → is_closed_under d t ≡ true
closed_under d (bound i) l f m v = below i d l
closed_under d (free j) l f m v = absurd (omega arith)
closed_under d (meta j) l f m v = absurd (true≢false m)
closed_under d (sort u) l f m v = not_from_false _ v
closed_under d (const c ls) l f m v = not_from_false _ v
closed_under d (app g a) l f m v =
    let p = or_parts (has_metavariable g) (has_metavariable a) m in
    let q = or_parts (has_level_metavariable g) (has_level_metavariable a) v in
    and_from _ _ (closed_under d g (omega arith) (omega arith) p.0 q.0) (closed_under d a (omega arith) (omega arith) p.1 q.1)
closed_under d (lam x a b) l f m v =
    let p = or_parts (has_metavariable a) (has_metavariable b) m in
    let q = or_parts (has_level_metavariable a) (has_level_metavariable b) v in
    and_from _ _ (closed_under d a (omega arith) (omega arith) p.0 q.0) (closed_under (suc d) b (omega arith) (omega arith) p.1 q.1)
closed_under d (pi x a b) l f m v =
    let p = or_parts (has_metavariable a) (has_metavariable b) m in
    let q = or_parts (has_level_metavariable a) (has_level_metavariable b) v in
    and_from _ _ (closed_under d a (omega arith) (omega arith) p.0 q.0) (closed_under (suc d) b (omega arith) (omega arith) p.1 q.1)
closed_under d (letin x a w b) l f m v =
    let p = or_parts (has_metavariable a) (has_metavariable w || has_metavariable b) m in
    let r = or_parts (has_metavariable w) (has_metavariable b) p.1 in
    let q = or_parts (has_level_metavariable a) (has_level_metavariable w || has_level_metavariable b) v in
    let s = or_parts (has_level_metavariable w) (has_level_metavariable b) q.1 in
    and_from _ _ (closed_under d a (omega arith) (omega arith) p.0 q.0)
    (and_from _ _ (closed_under d w (omega arith) (omega arith) r.0 s.0) (closed_under (suc d) b (omega arith) (omega arith) r.1 s.1))
closed_under d (lit n) l f m v = refl
closed_under d (proj s i t) l f m v = closed_under d t l f m v

-- What a term that is closed under d binders has not.
record Closed (d : ℕ) (t : Term) : Type 0 where
  pub loose : loose_bound t ≤ d
  pub free : free_bound t ≤ 0
  pub metavariable : has_metavariable t ≡ false
  pub level_metavariable : has_level_metavariable t ≡ false

closed : (d : ℕ) (t : Term) → is_closed_under d t ≡ true → Closed d t
closed d (bound i) h = record { loose = grind (arith, nat_tests); free = omega arith; metavariable = refl; level_metavariable = refl }
closed d (free j) h = absurd (true≢false (sym h))
closed d (meta j) h = absurd (true≢false (sym h))
closed d (sort u) h = record { loose = omega arith; free = omega arith; metavariable = refl; level_metavariable = not-true _ h }
closed d (const c ls) h = record { loose = omega arith; free = omega arith; metavariable = refl; level_metavariable = not-true _ h }
closed d (app g a) h =
    let k = and_parts (is_closed_under d g) (is_closed_under d a) h in
    let p = closed d g k.0 in
    let q = closed d a k.1 in
    record {
      loose = omega (arith, p.loose, q.loose);
      free = omega (arith, p.free, q.free);
      metavariable = or_from _ _ p.metavariable q.metavariable;
      level_metavariable = or_from _ _ p.level_metavariable q.level_metavariable;
    }
closed d (lam x a b) h =
    let k = and_parts (is_closed_under d a) (is_closed_under (suc d) b) h in
    let p = closed d a k.0 in
    let q = closed (suc d) b k.1 in
    record {
      loose = omega (arith, p.loose, q.loose);
      free = omega (arith, p.free, q.free);
      metavariable = or_from _ _ p.metavariable q.metavariable;
      level_metavariable = or_from _ _ p.level_metavariable q.level_metavariable;
    }
closed d (pi x a b) h =
    let k = and_parts (is_closed_under d a) (is_closed_under (suc d) b) h in
    let p = closed d a k.0 in
    let q = closed (suc d) b k.1 in
    record {
      loose = omega (arith, p.loose, q.loose);
      free = omega (arith, p.free, q.free);
      metavariable = or_from _ _ p.metavariable q.metavariable;
      level_metavariable = or_from _ _ p.level_metavariable q.level_metavariable;
    }
closed d (letin x a v b) h =
    let k = and_parts (is_closed_under d a) (is_closed_under d v && is_closed_under (suc d) b) h in
    let j = and_parts (is_closed_under d v) (is_closed_under (suc d) b) k.1 in
    let p = closed d a k.0 in
    let r = closed d v j.0 in
    let q = closed (suc d) b j.1 in
    record {
      loose = omega (arith, p.loose, q.loose, r.loose);
      free = omega (arith, p.free, q.free, r.free);
      metavariable = or_from _ _ p.metavariable (or_from _ _ r.metavariable q.metavariable);
      level_metavariable = or_from _ _ p.level_metavariable (or_from _ _ r.level_metavariable q.level_metavariable);
    }
closed d (lit n) h = record { loose = omega arith; free = omega arith; metavariable = refl; level_metavariable = refl }
closed d (proj s i t) h =
    let p = closed d t h in
    record { loose = p.loose; free = p.free; metavariable = p.metavariable; level_metavariable = p.level_metavariable }

pub closed_by : (t : Term) → loose_bound t ≤ 0 → free_bound t ≤ 0 → has_metavariable t ≡ false → has_level_metavariable t ≡ false → is_closed t ≡ true
closed_by t l f m v = closed_under 0 t l f m v

pub loose_open : (t : Term) → 0 < loose_bound t → is_closed t ≡ false
loose_open t h = false_from_ne_true (is_closed t) (λ e. let p = (closed 0 t e).loose in omega (arith, p))

pub free_open : (t : Term) → 0 < free_bound t → is_closed t ≡ false
free_open t h = false_from_ne_true (is_closed t) (λ e. let p = (closed 0 t e).free in omega (arith, p))

pub metavariable_open : (t : Term) → has_metavariable t ≡ true → is_closed t ≡ false
metavariable_open t h = false_from_ne_true (is_closed t) (λ e. true≢false (sym h ∙ (closed 0 t e).metavariable))

pub level_metavariable_open : (t : Term) → has_level_metavariable t ≡ true → is_closed t ≡ false
level_metavariable_open t h = false_from_ne_true (is_closed t) (λ e. true≢false (sym h ∙ (closed 0 t e).level_metavariable))
