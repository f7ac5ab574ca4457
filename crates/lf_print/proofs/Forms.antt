-- An application is printed in its form.
use Rattle.std.specs.Prelude.{◌≡◌, ℕ, Bool, true, false, cond, List}
use Rattle.std.proofs.Common.{refl}
use Rattle.lf_core.specs.Term.{Path, Term, bound, free, meta, sort, const, app, lam, pi, letin, lit, proj}
use Rattle.lf_print.specs.Operators.{is_negation}
use Rattle.lf_print.specs.Printed.{printed, applied, negated}
use Rattle.lf_print.specs.Forms.{ApplicationForm, negation_form, plain_form, form_of, form_text}

module _ (fs ls : List Path) (p : ℕ) (xs : List Path) where
  constant_form : (b : Bool) (f a : Term) → negated p b (printed fs ls 40 xs a) (applied p (printed fs ls 1023 xs f) (printed fs ls 1024 xs a))
      ≡ form_text fs ls p xs f a (cond b negation_form plain_form)
  constant_form true f a = refl
  constant_form false f a = refl

  pub printed_application : (f a : Term) → printed fs ls p xs (app f a) ≡ form_text fs ls p xs f a (form_of f)
  printed_application (const c ms) a = constant_form (is_negation c) (const c ms) a
  printed_application (app (const c ms) x) a = refl
  printed_application (app (app (const c ms) y) x) a = refl
  printed_application (bound i) a' = refl
  printed_application (free k) a' = refl
  printed_application (meta k) a' = refl
  printed_application (sort l) a' = refl
  printed_application (lit n) a' = refl
  printed_application (lam x A b) a' = refl
  printed_application (pi x A b) a' = refl
  printed_application (letin x A v b) a' = refl
  printed_application (proj s i t) a' = refl
  printed_application (app (bound i) x') a' = refl
  printed_application (app (free k) x') a' = refl
  printed_application (app (meta k) x') a' = refl
  printed_application (app (sort l) x') a' = refl
  printed_application (app (lit n) x') a' = refl
  printed_application (app (lam x A b) x') a' = refl
  printed_application (app (pi x A b) x') a' = refl
  printed_application (app (letin x A v b) x') a' = refl
  printed_application (app (proj s i t) x') a' = refl
  printed_application (app (app (bound i) y') x') a' = refl
  printed_application (app (app (free k) y') x') a' = refl
  printed_application (app (app (meta k) y') x') a' = refl
  printed_application (app (app (sort l) y') x') a' = refl
  printed_application (app (app (lit n) y') x') a' = refl
  printed_application (app (app (lam x A b) y') x') a' = refl
  printed_application (app (app (pi x A b) y') x') a' = refl
  printed_application (app (app (letin x A v b) y') x') a' = refl
  printed_application (app (app (proj s i t) y') x') a' = refl
  printed_application (app (app (app f g) y') x') a' = refl
