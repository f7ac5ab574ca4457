-- Lambdas over the first binders of a type, one at a time.
use Rattle.std.proofs.Common.{◌≡◌, ℕ, zero, suc, ◌-◌, ◌≤◌, refl, ap, arith, ◌∙◌}
use Rattle.std.specs.Prelude.{Option, Some, None}
use Rattle.lf_core.specs.Term.{Term, bound, free, meta, sort, const, app, lam, pi, letin, lit, proj}
use Rattle.lf_name.specs.declared.binder.Binder.{Binder}
use Rattle.lf_elaboration.specs.Forms.{Binding, as_pi}
use Rattle.lf_elaboration.specs.Induction.{first_lambdas}

abbrev before : ℕ → Term → Option Binding → Term
before n b None = b
before n b (Some p) = lam p.binder p.domain (first_lambdas n p.body b)

one_first : (n : ℕ) (T b : Term) → first_lambdas (suc n) T b ≡ before n b (as_pi T)
one_first n (bound i) b = refl
one_first n (free k) b = refl
one_first n (meta k) b = refl
one_first n (sort l) b = refl
one_first n (const c ls) b = refl
one_first n (app f a) b = refl
one_first n (lam x A d) b = refl
one_first n (pi x A B) b = refl
one_first n (letin x A v d) b = refl
one_first n (lit k) b = refl
one_first n (proj s i t) b = refl

pub first_none : (n : ℕ) (T b : Term) → as_pi T ≡ None → first_lambdas n T b ≡ b
first_none zero T b h = refl
first_none (suc n) T b h = one_first n T b ∙ ap (before n b) h

pub first_some : (n : ℕ) (x : Binder) (A B b : Term) → 1 ≤ n → first_lambdas n (pi x A B) b ≡ lam x A (first_lambdas (n - 1) B b)
first_some zero x A B b h = absurd (omega (arith, h))
first_some (suc n) x A B b h = ap (λ m. lam x A (first_lambdas m B b)) (omega arith)
