-- Applications: a walk along the pis of the function's type makes metavariables for implicit arguments, holes for instances and placeholders
-- for written ones; then the arguments are elaborated, each against its domain.
use Rattle.std.specs.Prelude.{ℕ, zero, suc, Bool, true, false, ◌&&◌, ◌||◌, Option, Some, None, List, [], ◌∷◌, ◌++◌}
use Rattle.lf_core.specs.Term.{Term, app}
use Rattle.lf_core.specs.Substitution.{instantiate}
use Rattle.lf_name.specs.declared.binder.BinderKind.{BinderKind}
use Rattle.lf_name.specs.declared.binder.BinderKind.TheVariants.{Explicit, Implicit, Inst}
use Rattle.lf_syntax.specs.Tree.{TermTree, place}
use Rattle.lf_checker.specs.Whnf.{turn_limit}
use Rattle.lf_syntax.specs.Tree.{ItemTree}
use Rattle.lf_elaboration.specs.Forms.{Binding, as_pi}
use Rattle.lf_elaboration.specs.Metavariables.{count}
use Rattle.lf_elaboration.specs.Messages as says
use Rattle.lf_elaboration.specs.Run.{◌>>=◌, ◌>>◌, gives, gives_up, reading, choose, or_else_fail, put, made}
use Rattle.lf_elaboration.specs.Part.{
  Part,
  Locals,
  Run,
  Calls,
  Typed,
  Trailing,
  given,
  left_open,
  instantiated,
  unify,
  whnf,
  placeholder,
  changed,
  error_on,
  mismatch,
}

-- ---- Where the type is unified with the expected one

abbrev pub agreed : Part → Calls → Locals → ℕ → Term → Option Term → Run (Unit {0})
agreed P c L at A None = gives tt
agreed P c L at A (Some E) = do
  fits ← unify c L A E
  or_else_fail fits (mismatch P L at A E)

-- False is passed over.
abbrev pub tried : Calls → Locals → Term → Option Term → Run (Unit {0})
tried c L A None = gives tt
tried c L A (Some E) = unify c L A E >>= (λ fits. gives tt)

-- ---- The walk

-- A written argument with its placeholder and the placeholder's type.
pub record Placed : Type 0 where
  pub placeholder : Term
  pub domain : Term
  pub argument : TermTree

-- The application so far and its type; the arguments that aren't elaborated yet; those that have no place yet.
pub record Walked : Type 0 where
  pub term : Term
  pub ty : Term
  pub placed : List Placed
  pub unplaced : List TermTree

-- What is put for a pi: with `@` every argument is written.
pub data Giving : Type 0 where
  to_unify : Giving
  to_resolve : Giving
  to_elaborate : Giving

abbrev pub giving : Bool → BinderKind → Giving
giving true k = to_elaborate
giving false Explicit = to_elaborate
giving false Implicit = to_unify
giving false Inst = to_resolve

abbrev pub has_none : List TermTree → Bool
has_none [] = true
has_none (s ∷ ss) = false

abbrev pub is_left_open : Trailing → Bool
is_left_open given = false
is_left_open left_open = true

-- Behind the last argument nothing is given with `@`, or where trailing pis are left open.
abbrev pub stops : Bool → Trailing → Walked → Bool
stops at_sign t w = has_none w.unplaced && (at_sign || is_left_open t)

-- The application with one argument more, whose type is the codomain at it.
abbrev pub passing : Walked → Binding → Term → Run Walked
passing w p m = do
  f ← put (app w.term m)
  B ← made (instantiate p.body m)
  gives (record w { term = f; ty = B })

abbrev pub with_placed : Placed → List TermTree → Walked → Walked
with_placed x ss w = record w { placed = w.placed ++ x ∷ []; unplaced = ss }

-- A metavariable that waits: for these items to prove its type, or without items for an instance of it.
abbrev pub hole : Locals → ℕ → Option (List ItemTree) → Term → Run Term
hole L at items A = reading λ s. do
  m ← placeholder L at A
  changed (λ t. record t { pending = t.pending ++ record { metavariable = count s.changes; items = items } ∷ [] })
  gives m

abbrev pub give_written : Locals → ℕ → (Walked → Run Walked) → Walked → Binding → List TermTree → Run Walked
give_written L at walk_on w p [] = gives w
give_written L at walk_on w p (s ∷ ss) = do
  m ← placeholder L at p.domain
  v ← passing w p m
  walk_on (with_placed (record { placeholder = m; domain = p.domain; argument = s }) ss v)

abbrev pub give : Locals → ℕ → (Walked → Run Walked) → Walked → Binding → Giving → Run Walked
give L at walk_on w p to_unify = do
  m ← placeholder L at p.domain
  v ← passing w p m
  walk_on v
give L at walk_on w p to_resolve = do
  m ← hole L at None p.domain
  v ← passing w p m
  walk_on v
give L at walk_on w p to_elaborate = give_written L at walk_on w p w.unplaced

abbrev pub step : Locals → ℕ → Bool → (Walked → Run Walked) → Walked → Option Binding → Run Walked
step L at at_sign walk_on w None = gives w
step L at at_sign walk_on w (Some p) = give L at walk_on w p (giving at_sign p.binder.kind)

abbrev pub walk : Calls → Locals → ℕ → Bool → Trailing → ℕ → Walked → Run Walked
walk c L at at_sign t zero w = gives_up
walk c L at at_sign t (suc n) w = choose (stops at_sign t w) (gives w) (do
  T ← instantiated w.ty
  W ← whnf c L T
  step L at at_sign (walk c L at at_sign t n) (record w { ty = T }) (as_pi W))

-- ---- The arguments, in order: each against its instantiated domain, and then unified with its placeholder.

abbrev pub argument : Part → Calls → Locals → Placed → Run (Unit {0})
argument P c L x = do
  A ← instantiated x.domain
  r ← c.elaborate given L x.argument (Some A)
  fits ← unify c L x.placeholder r.term
  or_else_fail fits (mismatch P L (place x.argument) r.ty A)

abbrev pub arguments : Part → Calls → Locals → List Placed → Run (Unit {0})
arguments P c L [] = gives tt
arguments P c L (x ∷ xs) = argument P c L x >> arguments P c L xs

abbrev pub elaborated : Walked → Walked
elaborated w = record w { placed = [] }

-- No pi for the next argument: the arguments so far are elaborated and the walk goes on; where there are none, no function stands there.
abbrev pub further : Part → Calls → Locals → ℕ → (Walked → Run Walked) → Walked → List Placed → Run Walked
further P c L at again w [] = error_on P L.names at says.function_expected w.ty
further P c L at again w (x ∷ xs) = arguments P c L (x ∷ xs) >> again (elaborated w)

abbrev pub after_walk : Part → Calls → Locals → ℕ → Option Term → (Walked → Run Walked) → Walked → List TermTree → Run Walked
after_walk P c L at E again w [] = tried c L w.ty E >> (arguments P c L w.placed >> gives w)
after_walk P c L at E again w (s ∷ ss) = further P c L at again w w.placed

abbrev pub rounds : Part → Calls → Locals → ℕ → Bool → Trailing → Option Term → ℕ → Walked → Run Walked
rounds P c L at at_sign t E zero w = gives_up
rounds P c L at at_sign t E (suc n) w = do
  v ← walk c L at at_sign t turn_limit w
  after_walk P c L at E (rounds P c L at at_sign t E n) v v.unplaced

-- The function applied to these arguments, at the place of its first token. Where the walk passes all of them the type is unified with the
-- expected one before they are elaborated, and false is passed over; at the end it is unified again.
abbrev pub application : Part → Calls → Locals → ℕ → Bool → Trailing → Typed → List TermTree → Option Term → Run Typed
application P c L at at_sign t h args E = do
  w ← rounds P c L at at_sign t E turn_limit (record { term = h.term; ty = h.ty; placed = []; unplaced = args })
  agreed P c L at w.ty E
  gives (record { term = w.term; ty = w.ty })
