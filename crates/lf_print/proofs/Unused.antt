-- A variable that lies above all loose ones isn't used.
use Rattle.std.specs.Prelude.{◌≡◌, ℕ, suc, ◌+◌, ◌-◌, ◌≤◌, max, Bool, true, false, ◌||◌, ◌==◌}
use Rattle.std.proofs.Common.{refl, sym, ◌∙◌, ap, arith}
use Rattle.lf_core.specs.Term.{Term, bound, free, meta, sort, const, app, lam, pi, letin, lit, proj}
use Rattle.lf_core.specs.Summary.{loose_bound}
use Rattle.lf_print.specs.Printed.{is_used}

neither : (a b : Bool) → a ≡ false → b ≡ false → (a || b) ≡ false
neither a b h g = ap (λ x. x || b) h ∙ g

pub unused : (d : ℕ) (t : Term) → loose_bound t ≤ d → is_used d t ≡ false
unused d (bound i) h = grind arith
unused d (free k) h = refl
unused d (meta k) h = refl
unused d (sort l) h = refl
unused d (const c ls) h = refl
unused d (lit n) h = refl
unused d (app f a) h = neither (is_used d f) (is_used d a) (unused d f (omega arith)) (unused d a (omega arith))
unused d (lam x a b) h = neither (is_used d a) (is_used (suc d) b) (unused d a (omega arith)) (unused (suc d) b (omega arith))
unused d (pi x a b) h = neither (is_used d a) (is_used (suc d) b) (unused d a (omega arith)) (unused (suc d) b (omega arith))
unused d (letin x a v b) h =
    neither (is_used d a) (is_used d v || is_used (suc d) b) (unused d a (omega arith))
    (neither (is_used d v) (is_used (suc d) b) (unused d v (omega arith)) (unused (suc d) b (omega arith)))
unused d (proj s i t) h = unused d t h
