-- How pis are opened, one at a time.
use Rattle.std.proofs.Common.{◌≡◌, ℕ, zero, suc, ◌-◌, ◌≤◌, List, [], ◌∷◌, ◌++◌, refl, ap, sym, ◌∙◌, append_assoc, arith}
use Rattle.lf_core.specs.Term.{Term, bound, free, meta, sort, const, app, lam, pi, letin, lit, proj}
use Rattle.lf_core.specs.Substitution.{instantiate}
use Rattle.lf_name.specs.declared.binder.Binder.{Binder}
use Rattle.lf_rules.specs.Telescope.{Local, open_pis, behind, pi_count}

pub open_pi : (k n : ℕ) (x : Binder) (A B : Term) → 1 ≤ n → open_pis k n (pi x A B) ≡ behind x A (open_pis (suc k) (n - 1) (instantiate B (free k)))
open_pi k zero x A B h = absurd (omega arith)
open_pi k (suc n) x A B h = ap (λ m. behind x A (open_pis (suc k) m (instantiate B (free k)))) (omega arith)

pub open_rest : (k n : ℕ) (t : Term) → pi_count t ≡ 0 → open_pis k n t ≡ record { locals = []; rest = t }
open_rest k zero t h = refl
open_rest k (suc n) (bound i) h = refl
open_rest k (suc n) (free i) h = refl
open_rest k (suc n) (meta i) h = refl
open_rest k (suc n) (sort l) h = refl
open_rest k (suc n) (const c ls) h = refl
open_rest k (suc n) (app f a) h = refl
open_rest k (suc n) (lam x A b) h = refl
open_rest k (suc n) (pi x A b) h = absurd (omega (arith, h))
open_rest k (suc n) (letin x A v b) h = refl
open_rest k (suc n) (lit i) h = refl
open_rest k (suc n) (proj s i t) h = refl

-- What is put behind the locals so far.
pub opened_onto :
    (before : List Local) (k n : ℕ) (x : Binder) (A B : Term) →
    1 ≤ n →
    (before ++ (record { binder = x; ty = A } ∷ [])) ++ (open_pis (suc k) (n - 1) (instantiate B (free k))).locals ≡ before ++ (open_pis k n (pi x A B)).locals
opened_onto before k n x A B h =
    append_assoc before (record { binder = x; ty = A } ∷ []) _
    ∙ ap (λ o. before ++ o.locals) (sym (open_pi k n x A B h))
