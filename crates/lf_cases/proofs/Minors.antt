-- Minor premises, a binder at a time.
use Rattle.std.proofs.Common.{◌≡◌, ℕ, zero, suc, ◌+◌, ◌-◌, ◌≤◌, refl, ap, ◌∙◌, arith}
use Rattle.std.specs.Prelude.{None}
use Rattle.lf_core.specs.Term.{level_zero, Term, bound, free, meta, sort, const, app, lam, pi, letin, lit, proj}
use Rattle.lf_core.specs.Spine.{apply}
use Rattle.lf_core.specs.Substitution.{instantiate}
use Rattle.lf_name.specs.declared.binder.Binder.{Binder}
use Rattle.lf_rules.specs.Telescope.{pi_count}
use Rattle.lf_elaboration.specs.Forms.{as_pi}
use Rattle.lf_elaboration.specs.Induction.{behind_one, behind_hypotheses, without_hypotheses, field_variables}

pub one_behind : (n : ℕ) (x : Binder) (A B : Term) → 1 ≤ n
    → behind_hypotheses n (pi x A B) ≡ behind_hypotheses (n - 1) (instantiate B (sort level_zero))
one_behind zero x A B h = absurd (omega (arith, h))
one_behind (suc n) x A B h = let e : n ≡ suc n - 1 = omega arith in ap (λ m. behind_hypotheses m (instantiate B (sort level_zero))) e

pub no_pi_behind : (n : ℕ) (t : Term) → as_pi t ≡ None → behind_hypotheses n t ≡ t
no_pi_behind zero t h = refl
no_pi_behind (suc n) t h = ap (λ p. behind_hypotheses n (behind_one t p)) h ∙ no_pi_behind n t h

pub one_field : (n : ℕ) (x : Binder) (A B : Term) → 1 ≤ n → without_hypotheses n (pi x A B) ≡ pi x A (without_hypotheses (n - 1) B)
one_field zero x A B h = absurd (omega (arith, h))
one_field (suc n) x A B h = ap (λ m. pi x A (without_hypotheses m B)) (omega arith)

pub no_field : (t : Term) → without_hypotheses 0 t ≡ behind_hypotheses (pi_count t) t
no_field (pi x A B) = refl
no_field (bound i) = refl
no_field (free k) = refl
no_field (meta k) = refl
no_field (sort l) = refl
no_field (const c ls) = refl
no_field (app f a) = refl
no_field (lam x A b) = refl
no_field (letin x A v b) = refl
no_field (lit n) = refl
no_field (proj s i t) = refl

pub no_pi : (n : ℕ) (t : Term) → as_pi t ≡ None → without_hypotheses n t ≡ t
no_pi zero t h = no_field t ∙ no_pi_behind (pi_count t) t h
no_pi (suc n) (pi x A B) h = cc
no_pi (suc n) (bound i) h = refl
no_pi (suc n) (free k) h = refl
no_pi (suc n) (meta k) h = refl
no_pi (suc n) (sort l) h = refl
no_pi (suc n) (const c ls) h = refl
no_pi (suc n) (app f a) h = refl
no_pi (suc n) (lam x A b) h = refl
no_pi (suc n) (letin x A v b) h = refl
no_pi (suc n) (lit k) h = refl
no_pi (suc n) (proj s i t) h = refl

pub one_variable : (f : Term) (m n h : ℕ) → m + 1 ≡ n → apply f (field_variables n h) ≡ apply (app f (bound (m + h))) (field_variables m h)
one_variable f m n h e = let i : n ≡ suc m = omega (arith, e) in ap (λ k. apply f (field_variables k h)) i
