-- What `apply` does behind the elaborated term, in parts. A device of the proof.
use Rattle.std.specs.Prelude.{ℕ, ◌-◌, Some, is_some, List, [], ◌∷◌, ◌++◌}
use Rattle.lf_core.specs.Term.{Term}
use Rattle.lf_name.specs.declared.binder.BinderKind.{BinderKind}
use Rattle.lf_name.specs.declared.binder.BinderKind.TheVariants.{Explicit, Implicit, Inst}
use Rattle.lf_elaboration.specs.Metavariables.{value}
use Rattle.lf_elaboration.specs.Messages as says
use Rattle.lf_elaboration.specs.Run.{◌>>=◌, ◌>>◌, gives, reading, choose}
use Rattle.lf_elaboration.specs.Part.{Part, Locals, Run, Calls, instantiated, error}
use Rattle.lf_elaboration.specs.Application.{agreed}
use Rattle.lf_elaboration.specs.Closing.{all_levels_assigned}
use Rattle.lf_elaboration.specs.Direct.{Goal}
use Rattle.lf_elaboration.specs.Apply as spec
use Rattle.lf_elaboration.specs.Apply.{Given, Opened}
use Rattle.lf_opening.specs.Openings.{opened_front}
use Rattle.lf_opening.specs.Pis.{pis_of}

-- Those that are goals, behind others.
abbrev pub goal_behind : ℕ → Given → BinderKind → List Given → (List Given → Run (List Given)) → Run (List Given)
goal_behind at g Explicit ready rest = rest (ready ++ g ∷ [])
goal_behind at g Implicit ready rest = error at says.undetermined_placeholder
goal_behind at g Inst ready rest = error at says.undetermined_placeholder

abbrev pub goals_behind : ℕ → List Given → List Given → Run (List Given)
goals_behind at ready [] = gives ready
goals_behind at ready (g ∷ gs) =
    reading λ s. choose (is_some (value s.changes g.number)) (goals_behind at ready gs) (goal_behind at g g.kind ready (λ r. goals_behind at r gs))

unfoldable pub goals_of : ℕ → List Given → Run (List Given)
goals_of at gs = spec.goals_of at gs

-- A term for as many pis as its type has more than the goal.
unfoldable pub opened_at : Calls → Locals → ℕ → Term → Term → Term → Run Opened
opened_at c L at goal t T = do
  n ← pis_of c L.types T
  m ← pis_of c L.types goal
  opened_front c L at (n - m) t T

unfoldable pub opened_against : Calls → Locals → ℕ → Term → Term → Term → Run Opened
opened_against c L at goal t A = do
  T ← instantiated A
  opened_at c L at goal t T

-- What is left of its type is the goal.
unfoldable pub fitting : Part → Calls → Locals → ℕ → Term → Term → Term → Run Opened
fitting P c L at goal t A = do
  o ← opened_against c L at goal t A
  agreed P c L at o.ty (Some goal)
  gives o

unfoldable pub goals_left : Part → ℕ → ℕ → List Given → Run (List Given)
goals_left P at levels gs = do
  goals ← goals_of at gs
  all_levels_assigned P levels
  gives goals

-- The term at its metavariables, of which those that are goals are given.
unfoldable pub applied : Part → Calls → Locals → ℕ → ℕ → Term → Term → Term → Run Opened
applied P c L at levels goal t A = do
  o ← fitting P c L at goal t A
  goals ← goals_left P at levels o.given
  gives (record o { given = goals })

abbrev pub goal_of : Given → Goal
goal_of g = record { ty = g.ty; metavariable = Some g.number }
