-- The definition's runs of binders, each opened by its name alone, in the parts that are functions of the code. A device of the proof.
use Rattle.std.specs.Prelude.{ℕ, Option, Some, None, List, length}
use Rattle.lf_core.specs.Term.{Path, Universe, Term}
use Rattle.lf_name.specs.declared.binder.Binder.{Binder}
use Rattle.lf_syntax.specs.declared.leaf.Ident.{Ident}
use Rattle.lf_syntax.specs.Tree.{TermTree, BindersTree}
use Rattle.lf_elaboration.specs.Forms.{Binding}
use Rattle.lf_elaboration.specs.Run.{◌>>=◌, ◌>>◌, gives, room}
use Rattle.lf_elaboration.specs.Part.{Part, Locals, with_local, Run, Calls, Typed, Sorted, given, fresh_type}
use Rattle.lf_elaboration.specs.Closing.{mark}
use Rattle.lf_elaboration.specs.Application.{agreed}
use Rattle.lf_elaboration.specs.Terms as spec
use Rattle.lf_elaboration.specs.Terms.{OneBinder, binder_of, fits_domain, expected_pi, opened_codomain, agreed_unless, in_sort, group_in}
use Rattle.lf_terms.specs.Forms.{lambda_of, pi_of, let_of, arrow_over}
use Rattle.lf_nested.specs.Types.{as_type}
use Rattle.lf_nested.specs.Blocks.{closed_at}

-- ---- `fun`

unfoldable pub function : Part → Calls → ℕ → TermTree → Locals → List OneBinder → Option Term → Run Typed
function P c at body L bs E = spec.function P c at body L bs E

-- The type of a binder whose name stands at x.
unfoldable pub domain_of : Part → Calls → Locals → ℕ → ℕ → Option TermTree → Option Binding → Run Term
domain_of P c L at x (Some s) p = do
  A ← as_type P c L s
  fits_domain P c L at A.term p
domain_of P c L at x None (Some p) = gives p.domain
domain_of P c L at x None None = do
  A ← fresh_type L x
  gives A.term

-- The function of the other binders, in locals whose last, of number n, closes behind it.
unfoldable pub function_in : Part → Calls → ℕ → TermTree → List OneBinder → Option Term → ℕ → Locals → Run Typed
function_in P c at body bs E n L = do
  k ← mark
  r ← function P c at body L bs E
  closed_at P c L k.terms n
  gives r

unfoldable pub lambda_body : Part → Calls → ℕ → TermTree → List OneBinder → Path → Binder → Locals → Term → Option Term → Run Typed
lambda_body P c at body bs x b L A B = do
  r ← function_in P c at body bs B (length L.types) (with_local L x A)
  lambda_of (length L.types) b A r.term r.ty

unfoldable pub lambda_for : Part → Calls → ℕ → TermTree → List OneBinder → OneBinder → Option Term → Locals → Option Binding → Run Typed
lambda_for P c at body bs b E L p = do
  A ← domain_of P c L at b.name.at b.ty p
  B ← opened_codomain L.types p
  f ← lambda_body P c at body bs b.name.name (binder_of b) L A B
  agreed_unless p (agreed P c L at f.ty E)
  gives f

unfoldable pub lambda : Part → Calls → ℕ → TermTree → List OneBinder → OneBinder → Option Term → Locals → Run Typed
lambda P c at body bs b E L = do
  p ← expected_pi c L E
  lambda_for P c at body bs b E L p

-- ---- `∀` and arrows

unfoldable pub pis : Part → Calls → TermTree → Locals → List OneBinder → Run Sorted
pis P c body L bs = spec.pis P c body L bs

unfoldable pub pis_term : Part → Calls → ℕ → TermTree → Locals → List OneBinder → Option Term → Run Typed
pis_term P c at body L bs E = in_sort P c L at E (pis P c body L bs)

unfoldable pub binder_arrow : Part → Calls → ℕ → TermTree → Locals → BindersTree → Option Term → Run Typed
binder_arrow P c at body L b E = pis_term P c at body L (group_in b) E

unfoldable pub arrow : Part → Calls → Locals → TermTree → TermTree → Run Sorted
arrow P c L l r = do
  A ← as_type P c L l
  B ← as_type P c L r
  arrow_over A B

unfoldable pub arrow_term : Part → Calls → Locals → ℕ → TermTree → TermTree → Option Term → Run Typed
arrow_term P c L at l r E = in_sort P c L at E (arrow P c L l r)

-- The type of a binder whose name stands at x.
unfoldable pub type_of : Part → Calls → Locals → ℕ → Option TermTree → Run Sorted
type_of P c L x (Some s) = as_type P c L s
type_of P c L x None = fresh_type L x

-- The pis of the other binders, in locals whose last, of number n, closes behind them.
unfoldable pub pis_in : Part → Calls → TermTree → List OneBinder → ℕ → Locals → Run Sorted
pis_in P c body bs n L = do
  k ← mark
  r ← pis P c body L bs
  closed_at P c L k.terms n
  gives r

unfoldable pub pi_body : Part → Calls → TermTree → List OneBinder → Path → Binder → Locals → Term → Universe → Run Sorted
pi_body P c body bs x b L A l = do
  r ← pis_in P c body bs (length L.types) (with_local L x A)
  pi_of (length L.types) b A l r.term r.level

unfoldable pub pi : Part → Calls → TermTree → List OneBinder → OneBinder → Locals → Run Sorted
pi P c body bs b L = do
  A ← type_of P c L b.name.at b.ty
  room L.types
  pi_body P c body bs b.name.name (binder_of b) L A.term A.level

-- ---- `let`

unfoldable pub let_value : Part → Calls → Locals → Option TermTree → TermTree → Run Typed
let_value P c L None v = c.elaborate given L v None
let_value P c L (Some x) v = do
  A ← as_type P c L x
  r ← c.elaborate given L v (Some A.term)
  gives (record { term = r.term; ty = A.term })

-- A term in locals whose last, of number n, closes behind it.
unfoldable pub term_in : Part → Calls → TermTree → Option Term → ℕ → Locals → Run Typed
term_in P c s E n L = do
  k ← mark
  r ← c.elaborate given L s E
  closed_at P c L k.terms n
  gives r

unfoldable pub let_body : Part → Calls → TermTree → Option Term → Path → Locals → Term → Term → Run Typed
let_body P c body E x L v A = do
  room L.types
  r ← term_in P c body E (length L.types) (with_local L x A)
  let_of (length L.types) x (record { term = v; ty = A }) r.term r.ty

unfoldable pub let_in : Part → Calls → Locals → Ident → Option TermTree → TermTree → TermTree → Option Term → Run Typed
let_in P c L x o v body E = do
  r ← let_value P c L o v
  let_body P c body E x.name L r.term r.ty
