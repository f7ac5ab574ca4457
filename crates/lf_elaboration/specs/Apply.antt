-- `apply`: a term with metavariables for pis of its type, of which the explicit ones that unification leaves open are the goals.
use Rattle.std.specs.Prelude.{ℕ, zero, suc, ◌-◌, true, Option, Some, None, is_some, List, [], ◌∷◌, ◌++◌}
use Rattle.lf_core.specs.Term.{Term, app}
use Rattle.lf_core.specs.Substitution.{instantiate}
use Rattle.lf_name.specs.declared.binder.BinderKind.{BinderKind}
use Rattle.lf_name.specs.declared.binder.BinderKind.TheVariants.{Explicit, Implicit, Inst}
use Rattle.lf_rules.specs.Environment.{Context, with}
use Rattle.lf_syntax.specs.Tree.{TermTree, place}
use Rattle.lf_checker.specs.Whnf.{turn_limit}
use Rattle.lf_elaboration.specs.Forms.{Binding, as_pi}
use Rattle.lf_elaboration.specs.Metavariables.{count, value}
use Rattle.lf_elaboration.specs.Messages as says
use Rattle.lf_elaboration.specs.Run.{◌>>=◌, ◌>>◌, gives, gives_up, choose, or_else_fail, reading, checks, put, made, opening}
use Rattle.lf_elaboration.specs.Part.{Part, Locals, Run, Calls, left_open, instantiated, unify, whnf, placeholder, error, mismatch}
use Rattle.lf_elaboration.specs.Closing.{mark, all_levels_assigned, close}
use Rattle.lf_elaboration.specs.Direct.{Goal, Rest}

-- The pis of a type, along weak head forms.
abbrev pub one_and : Context → Option Binding → (Context → Term → Run ℕ) → Run ℕ
one_and C None rest = gives 0
one_and C (Some p) rest = do
  B ← opening C p.body
  k ← rest (with C p.domain) B
  gives (suc k)

abbrev pub pis_of : Calls → ℕ → Context → Term → Run ℕ
pis_of c zero C T = gives_up
pis_of c (suc n) C T = do
  W ← checks (c.check.whnf true C T)
  one_and C (as_pi W) (pis_of c n)

-- A metavariable that was given to a pi.
pub record Given : Type 0 where
  pub number : ℕ
  pub kind : BinderKind
  pub ty : Term

-- A term applied to metavariables, and its type.
pub record Opened : Type 0 where
  pub term : Term
  pub ty : Term
  pub given : List Given

-- One metavariable more, made by the node at this place.
abbrev pub with_given : Locals → ℕ → Opened → Binding → Run Opened
with_given L at o p = reading λ s. do
  m ← placeholder L at p.domain
  f ← put (app o.term m)
  B ← made (instantiate p.body m)
  gives (record { term = f; ty = B; given = o.given ++ record { number = count s.changes; kind = p.binder.kind; ty = p.domain } ∷ [] })

abbrev pub for_pi : Locals → ℕ → Opened → Option Binding → (Opened → Run Opened) → Run Opened
for_pi L at o None next = gives o
for_pi L at o (Some p) next = with_given L at o p >>= next

-- For the first n pis, along weak head forms.
abbrev pub open_first : Calls → Locals → ℕ → ℕ → Opened → Run Opened
open_first c L at zero o = gives o
open_first c L at (suc n) o = do
  W ← whnf c L o.ty
  for_pi L at o (as_pi W) (open_first c L at n)

-- The explicit ones that aren't assigned are the goals, in order; an implicit one that isn't is an error.
abbrev pub as_goal : ℕ → Given → BinderKind → Run (List Given) → Run (List Given)
as_goal at g Explicit rest = rest >>= (λ gs. gives (g ∷ gs))
as_goal at g Implicit rest = error at says.undetermined_placeholder
as_goal at g Inst rest = error at says.undetermined_placeholder

abbrev pub goals_of : ℕ → List Given → Run (List Given)
goals_of at [] = gives []
goals_of at (g ∷ gs) = reading λ s. choose (is_some (value s.changes g.number)) (goals_of at gs) (as_goal at g g.kind (goals_of at gs))

abbrev pub goals_given : List Given → List Goal
goals_given [] = []
goals_given (g ∷ gs) = record { ty = g.ty; metavariable = Some g.number } ∷ goals_given gs

-- The term gets metavariables for as many pis as its type has more than the goal; what is left of its type is the goal.
abbrev pub apply_item : Part → Calls → Locals → Term → TermTree → Rest → Run Term
apply_item P c L goal s rest = do
  k ← mark
  r ← c.elaborate left_open L s None
  close P c L k.terms None
  T ← instantiated r.ty
  n ← pis_of c turn_limit L.types T
  m ← pis_of c turn_limit L.types goal
  o ← open_first c L (place s) (n - m) (record { term = r.term; ty = T; given = [] })
  fits ← unify c L o.ty goal
  or_else_fail fits (mismatch P L (place s) o.ty goal)
  gs ← goals_of (place s) o.given
  all_levels_assigned P k.levels
  rest L (goals_given gs)
  instantiated o.term
