-- The pis of a type, counted one at a time. A device of the proof.
use Rattle.std.specs.Prelude.{ℕ, ◌+◌, true, Option, Some, None}
use Rattle.lf_core.specs.Term.{Term}
use Rattle.lf_rules.specs.Environment.{Context, with}
use Rattle.lf_checker.specs.Whnf.{turn_limit}
use Rattle.lf_elaboration.specs.Forms.{Binding, as_pi}
use Rattle.lf_elaboration.specs.Run.{◌>>=◌, gives, checks, opening}
use Rattle.lf_elaboration.specs.Part.{Run, Calls}
use Rattle.lf_elaboration.specs.Apply as spec

-- A type under variables of these types.
pub record Under : Type 0 where
  pub types : Context
  pub ty : Term

abbrev pub under_pi : Context → Binding → Run Under
under_pi C p = do
  B ← opening C p.body
  gives (record { types = with C p.domain; ty = B })

abbrev pub at_form : Context → Option Binding → Run (Option Under)
at_form C None = gives None
at_form C (Some p) = do
  U ← under_pi C p
  gives (Some U)

unfoldable pub form_under : Calls → Context → Term → Run Term
form_under c C T = checks (c.check.whnf true C T)

-- What stands below the first pi.
unfoldable pub below_pi : Calls → Under → Run (Option Under)
below_pi c U = do
  W ← form_under c U.types U.ty
  at_form U.types (as_pi W)

abbrev pub counted : ℕ → Run ℕ → Run ℕ
counted k m = do
  j ← m
  gives (k + j)

-- Behind k others.
unfoldable pub pis_behind : Calls → ℕ → ℕ → Under → Run ℕ
pis_behind c k n U = counted k (spec.pis_of c n U.types U.ty)

unfoldable pub pis_of : Calls → Context → Term → Run ℕ
pis_of c C T = spec.pis_of c turn_limit C T
