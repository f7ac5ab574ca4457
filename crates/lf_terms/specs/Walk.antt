-- One turn of the walk along pis, and the walk by its name alone. A device of the proof.
use Rattle.std.specs.Prelude.{ℕ, Bool, Option, Some, None, List, [], ◌∷◌, ◌++◌}
use Rattle.lf_core.specs.Term.{Term}
use Rattle.lf_syntax.specs.Tree.{TermTree}
use Rattle.lf_checker.specs.Whnf.{turn_limit}
use Rattle.lf_elaboration.specs.Forms.{Binding, as_pi}
use Rattle.lf_elaboration.specs.Run.{◌>>=◌, gives}
use Rattle.lf_elaboration.specs.Part.{Locals, Run, Calls, Trailing, instantiated, whnf, placeholder}
use Rattle.lf_elaboration.specs.Application as spec
use Rattle.lf_elaboration.specs.Application.{Placed, Walked, Giving, to_unify, to_resolve, to_elaborate, giving, passing, hole, with_placed}
use Rattle.lf_terms.specs.declared.walking.Turn.{Turn}
use Rattle.lf_terms.specs.declared.walking.Turn.TheVariants.{Ends, GoesOn}

-- The argument has a placeholder, and the application so far has no other arguments than those behind it.
abbrev pub place_written : Locals → ℕ → TermTree → Walked → Binding → Run Turn
place_written L at x w p = do
  m ← placeholder L at p.domain
  v ← passing w p m
  gives (GoesOn (record v { placed = v.placed ++ record { placeholder = m; domain = p.domain; argument = x } ∷ [] }))

abbrev pub written : Locals → ℕ → Walked → Binding → List TermTree → Run Turn
written L at w p [] = gives (Ends w)
written L at w p (x ∷ xs) = do
  m ← placeholder L at p.domain
  v ← passing w p m
  gives (GoesOn (with_placed (record { placeholder = m; domain = p.domain; argument = x }) xs v))

abbrev pub given_by : Locals → ℕ → Walked → Binding → Giving → Run Turn
given_by L at w p to_unify = do
  m ← placeholder L at p.domain
  v ← passing w p m
  gives (GoesOn v)
given_by L at w p to_resolve = do
  m ← hole L at None p.domain
  v ← passing w p m
  gives (GoesOn v)
given_by L at w p to_elaborate = written L at w p w.unplaced

abbrev pub turn_at : Locals → ℕ → Bool → Walked → Option Binding → Run Turn
turn_at L at at_sign w None = gives (Ends w)
turn_at L at at_sign w (Some p) = given_by L at w p (giving at_sign p.binder.kind)

-- A type with its assigned metavariables put in, and its weak head form.
unfoldable pub type_form : Calls → Locals → Term → Run (Term × Term)
type_form c L A = do
  T ← instantiated A
  W ← whnf c L T
  gives (T, W)

abbrev pub walk_turn : Calls → Locals → ℕ → Bool → Walked → Run Turn
walk_turn c L at at_sign w = do
  r ← type_form c L w.ty
  turn_at L at at_sign (record w { ty = r.0 }) (as_pi r.1)

abbrev pub after : (Walked → Run Walked) → Turn → Run Walked
after walk_on (Ends w) = gives w
after walk_on (GoesOn w) = walk_on w

unfoldable pub walk_within : Calls → Locals → ℕ → Bool → Trailing → ℕ → Walked → Run Walked
walk_within c L at at_sign t n w = spec.walk c L at at_sign t n w

unfoldable pub walked : Calls → Locals → ℕ → Bool → Trailing → Walked → Run Walked
walked c L at at_sign t w = walk_within c L at at_sign t turn_limit w
