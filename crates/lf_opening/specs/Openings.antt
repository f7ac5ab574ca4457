-- One turn of the opening of pis, and the openings by their names alone. A device of the proof.
use Rattle.std.specs.Prelude.{ℕ, Option, Some, None, []}
use Rattle.lf_core.specs.Term.{Term}
use Rattle.lf_checker.specs.Whnf.{turn_limit}
use Rattle.lf_elaboration.specs.Forms.{Binding, as_pi}
use Rattle.lf_elaboration.specs.Run.{◌>>=◌, gives}
use Rattle.lf_elaboration.specs.Part.{Locals, Run, Calls, whnf}
use Rattle.lf_elaboration.specs.Apply as spec
use Rattle.lf_elaboration.specs.Apply.{Opened, with_given}
use Rattle.lf_elaboration.specs.Rewrite.{open_all}
use Rattle.lf_opening.specs.declared.opened.Turn.{Turn}
use Rattle.lf_opening.specs.declared.opened.Turn.TheVariants.{Ends, GoesOn}

abbrev pub turn_at : Locals → ℕ → Opened → Option Binding → Run Turn
turn_at L at o None = gives (Ends o)
turn_at L at o (Some p) = do
  v ← with_given L at o p
  gives (GoesOn v)

-- Where no pi is left the type stays as it is.
unfoldable pub first_turn : Calls → Locals → ℕ → Opened → Run Turn
first_turn c L at o = do
  W ← whnf c L o.ty
  turn_at L at o (as_pi W)

-- Where no pi is left the type is the weak head form.
unfoldable pub form_turn : Calls → Locals → ℕ → Opened → Run Turn
form_turn c L at o = do
  W ← whnf c L o.ty
  turn_at L at (record o { ty = W }) (as_pi W)

abbrev pub after : (Opened → Run Opened) → Turn → Run Opened
after go (Ends o) = gives o
after go (GoesOn o) = go o

unfoldable pub open_first : Calls → Locals → ℕ → ℕ → Opened → Run Opened
open_first c L at n o = spec.open_first c L at n o

unfoldable pub open_within : Calls → Locals → ℕ → ℕ → Opened → Run Opened
open_within c L at n o = open_all c L at n o

-- A term of this type, for all pis of it.
unfoldable pub opened_whole : Calls → Locals → ℕ → Term → Term → Run Opened
opened_whole c L at t A = open_within c L at turn_limit (record { term = t; ty = A; given = [] })

-- For the first n.
unfoldable pub opened_front : Calls → Locals → ℕ → ℕ → Term → Term → Run Opened
opened_front c L at n t A = open_first c L at n (record { term = t; ty = A; given = [] })
