-- The definition's runs of types, each opened by its name alone, in the parts that are functions of the code. A device of the proof.
use Rattle.std.specs.Prelude.{ℕ, Option, Some, None}
use Rattle.lf_core.specs.Term.{Term}
use Rattle.lf_syntax.specs.Tree.{TermTree, place}
use Rattle.lf_elaboration.specs.Forms.{as_sort, as_metavariable}
use Rattle.lf_elaboration.specs.Run.{◌>>=◌, gives}
use Rattle.lf_elaboration.specs.Part.{Part, Locals, Run, Calls, Typed, Sorted, Trailing, given, instantiated, whnf}
use Rattle.lf_elaboration.specs.Terms.{sort_at, against}

-- A term with the level of the sort that its type is.
unfoldable pub sorted : Part → Calls → Locals → ℕ → Term → Term → Run Sorted
sorted P c L at t A = do
  T ← instantiated A
  W ← whnf c L T
  l ← sort_at P c L at T W (as_sort W) (as_metavariable W)
  gives (record { term = t; level = l })

unfoldable pub as_type : Part → Calls → Locals → TermTree → Run Sorted
as_type P c L s = do
  r ← c.elaborate given L s None
  sorted P c L (place s) r.term r.ty

-- A term in parentheses with this type.
unfoldable pub in_type : Part → Calls → Locals → ℕ → TermTree → Option Term → Term → Run Typed
in_type P c L at s E A = do
  r ← c.elaborate given L s (Some A)
  against P c L at E r.term A

unfoldable pub parenthesized : Part → Calls → Trailing → Locals → ℕ → TermTree → Option TermTree → Option Term → Run Typed
parenthesized P c t L at s None E = c.elaborate t L s E
parenthesized P c t L at s (Some x) E = do
  A ← as_type P c L x
  in_type P c L at s E A.term
