-- In which form an application is printed, by the function that is applied: a device of the code.
use Rattle.std.specs.Prelude.{ℕ, Bool, true, if◌then◌else◌, Option, List}
use Rattle.lf_core.specs.Term.{Path, Term, bound, free, meta, sort, const, app, lam, pi, letin, lit, proj}
use Rattle.lf_print.specs.Operators.{operation_of, relation_of, is_negation}
use Rattle.lf_print.specs.Printed.{printed, applied, infixed, negated}
use Rattle.lf_text.specs.declared.operator.Op.{Op}

pub data ApplicationForm : Type 0 where
  between_form : Option Op → Term → ApplicationForm
  negation_form : ApplicationForm
  plain_form : ApplicationForm

abbrev pub form_of : Term → ApplicationForm
form_of (const c ms) = if is_negation c then negation_form else plain_form
form_of (app (const c ms) a) = between_form (operation_of c) a
form_of (app (app (const c ms) A) a) = between_form (relation_of c) a
form_of _ = plain_form

abbrev pub form_text : List Path → List Path → ℕ → List Path → Term → Term → ApplicationForm → List ℕ
form_text fs ls p xs f a (between_form o x) = infixed p o (λ q. printed fs ls q xs x) (λ q. printed fs ls q xs a)
    (applied p (printed fs ls 1023 xs f) (printed fs ls 1024 xs a))
form_text fs ls p xs f a negation_form = negated p true (printed fs ls 40 xs a) (applied p (printed fs ls 1023 xs f) (printed fs ls 1024 xs a))
form_text fs ls p xs f a plain_form = applied p (printed fs ls 1023 xs f) (printed fs ls 1024 xs a)
