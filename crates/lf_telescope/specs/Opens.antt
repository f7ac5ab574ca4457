-- Binders of one former, opened by the variables from a number on. A device of the proof.
use Rattle.std.specs.Prelude.{ℕ, zero, suc, ◌-◌, nat_lt, Option, Some, None, [], ◌∷◌, ◌++◌}
use Rattle.lf_core.specs.Term.{Term, free}
use Rattle.lf_core.specs.Substitution.{instantiate}
use Rattle.lf_rules.specs.Telescope.{Telescope, Opened, behind}
use Rattle.lf_checker.specs.Run.{greatest_variable, Run, ◌>>=◌, gives, gives_up, choose, made}
use Rattle.lf_elaboration.specs.Forms.{Binding, as_pi, as_lambda}
use Rattle.lf_telescope.specs.declared.binding.Binding as code
use Rattle.lf_telescope.specs.declared.binding.Former.{Former}
use Rattle.lf_telescope.specs.declared.binding.Former.TheVariants.{Pi, Lambda}

abbrev pub formed_by : Former → Term → Option Binding
formed_by Pi t = as_pi t
formed_by Lambda t = as_lambda t

-- The body of a binder, opened by the variable of this number.
abbrev pub opening_at : ℕ → Term → Run Term
opening_at k b = choose (nat_lt greatest_variable k) gives_up (made (instantiate b (free k)))

abbrev pub open_binder_at : ℕ → Option Binding → Term → (ℕ → Term → Run Opened) → Run Opened
open_binder_at k None t rest = gives (record { locals = []; rest = t })
open_binder_at k (Some p) t rest = do
  o ← opening_at k p.body
  r ← rest (suc k) o
  gives (behind p.binder p.domain r)

-- At most n of them.
unfoldable pub open_from : Former → ℕ → ℕ → Term → Run Opened
open_from s zero k t = gives (record { locals = []; rest = t })
open_from s (suc n) k t = open_binder_at k (formed_by s t) t (open_from s n)

-- What is opened, behind these locals.
abbrev pub behind_all : Telescope → Term → Opened
behind_all xs t = record { locals = xs; rest = t }

abbrev pub onto : Telescope → Run Opened → Run Opened
onto xs m = do
  o ← m
  gives (behind_all (xs ++ o.locals) o.rest)

-- The binder that is opened next of the n that are left, or the end.
abbrev pub at_front : Former → Telescope → ℕ → ℕ → Term → Option code.Binding → Run Opened
at_front s xs n k t None = gives (behind_all xs t)
at_front s xs n k t (Some p) = do
  o ← opening_at k p.body.now
  onto (xs ++ record { binder = p.binder.now; ty = p.domain.now } ∷ []) (open_from s (n - 1) (suc k) o)
