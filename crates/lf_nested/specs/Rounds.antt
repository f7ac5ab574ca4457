-- The definition's runs of applications, each opened by its name alone, in the parts that are functions of the code. A device of the proof.
use Rattle.std.specs.Prelude.{ℕ, Bool, false, Option, Some, None, List, [], ◌∷◌}
use Rattle.lf_core.specs.Term.{Path, Term}
use Rattle.lf_text.specs.declared.operator.Op.{Op}
use Rattle.lf_syntax.specs.Tree.{TermTree, place}
use Rattle.lf_checker.specs.Whnf.{turn_limit}
use Rattle.lf_elaboration.specs.Messages as says
use Rattle.lf_elaboration.specs.Run.{◌>>=◌, ◌>>◌, gives, or_else_fail}
use Rattle.lf_elaboration.specs.Identifiers.{constant_named}
use Rattle.lf_elaboration.specs.Terms as terms
use Rattle.lf_elaboration.specs.Terms.{as_named, has_at_sign, against}
use Rattle.lf_elaboration.specs.Part.{Part, Locals, Run, Calls, Typed, Trailing, given, instantiated, unify, error_on, mismatch}
use Rattle.lf_elaboration.specs.Application as spec
use Rattle.lf_elaboration.specs.Application.{Placed, Walked, tried, elaborated}
use Rattle.lf_terms.specs.declared.walking.Turn.{Turn}
use Rattle.lf_terms.specs.declared.walking.Turn.TheVariants.{Ends, GoesOn}
use Rattle.lf_terms.specs.Walk.{walked}
use Rattle.lf_terms.specs.Forms.{operator_name}
use Rattle.lf_nested.specs.Binders.{arrow_term}

-- The placeholder and the argument's term are unified.
unfoldable pub placed_as : Part → Calls → Locals → ℕ → Term → Term → Term → Term → Run (Unit {0})
placed_as P c L at m A t T = do
  fits ← unify c L m t
  or_else_fail fits (mismatch P L at T A)

unfoldable pub argument : Part → Calls → Locals → Term → Term → TermTree → Run (Unit {0})
argument P c L m B x = do
  A ← instantiated B
  r ← c.elaborate given L x (Some A)
  placed_as P c L (place x) m A r.term r.ty

unfoldable pub placed_argument : Part → Calls → Locals → Placed → Run (Unit {0})
placed_argument P c L x = argument P c L x.placeholder x.domain x.argument

unfoldable pub arguments : Part → Calls → Locals → List Placed → Run (Unit {0})
arguments P c L xs = spec.arguments P c L xs

unfoldable pub no_function : Part → Locals → ℕ → Term → Run Turn
no_function P L at A = error_on P L.names at says.function_expected A

-- No pi for the next argument.
unfoldable pub further : Part → Calls → Locals → ℕ → Walked → List Placed → Run Turn
further P c L at w [] = no_function P L at w.ty
further P c L at w (x ∷ xs) = arguments P c L (x ∷ xs) >> gives (GoesOn (elaborated w))

-- The end of the rounds.
unfoldable pub last_arguments : Part → Calls → Locals → Option Term → Walked → Run Turn
last_arguments P c L E w = tried c L w.ty E >> (arguments P c L w.placed >> gives (Ends w))

unfoldable pub after_walk : Part → Calls → Locals → ℕ → Option Term → Walked → List TermTree → Run Turn
after_walk P c L at E w [] = last_arguments P c L E w
after_walk P c L at E w (s ∷ ss) = further P c L at w w.placed

unfoldable pub round : Part → Calls → Locals → ℕ → Bool → Trailing → Option Term → Walked → Run Turn
round P c L at at_sign t E w = do
  v ← walked c L at at_sign t w
  after_walk P c L at E v v.unplaced

unfoldable pub rounds_within : Part → Calls → Locals → ℕ → Bool → Trailing → Option Term → ℕ → Walked → Run Walked
rounds_within P c L at at_sign t E n w = spec.rounds P c L at at_sign t E n w

unfoldable pub rounds : Part → Calls → Locals → ℕ → Bool → Trailing → Option Term → Walked → Run Walked
rounds P c L at at_sign t E w = rounds_within P c L at at_sign t E turn_limit w

-- The function and its type, applied to these arguments.
unfoldable pub application : Part → Calls → Locals → ℕ → Bool → Trailing → Term → Term → List TermTree → Option Term → Run Typed
application P c L at at_sign t f A xs E = do
  w ← rounds P c L at at_sign t E (record { term = f; ty = A; placed = []; unplaced = xs })
  against P c L at E w.term w.ty

unfoldable pub head : Part → Calls → Locals → TermTree → Run Typed
head P c L h = terms.head P c L h (as_named h)

unfoldable pub applied : Part → Calls → Trailing → Locals → ℕ → TermTree → List TermTree → Option Term → Run Typed
applied P c t L at h xs E = do
  f ← head P c L h
  application P c L at (has_at_sign (as_named h)) t f.term f.ty xs E

unfoldable pub operator : Part → Calls → Trailing → Locals → ℕ → Path → List TermTree → Option Term → Run Typed
operator P c t L at n xs E = do
  f ← constant_named P at n
  application P c L at false t f.term f.ty xs E

abbrev pub operation_by : Part → Calls → Trailing → Locals → ℕ → Option Path → TermTree → TermTree → Option Term → Run Typed
operation_by P c t L at None l r E = arrow_term P c L at l r E
operation_by P c t L at (Some n) l r E = operator P c t L at n (l ∷ r ∷ []) E

unfoldable pub operation : Part → Calls → Trailing → Locals → ℕ → Op → TermTree → TermTree → Option Term → Run Typed
operation P c t L at o l r E = operation_by P c t L at (operator_name o) l r E
