-- Terms: what each written form means, a term and its type. Where a rule doesn't use the expected type itself, the type is unified with it at
-- the end.
use Rattle.std.specs.Prelude.{ℕ, Bool, false, Option, Some, None, List, [], ◌∷◌, ◌++◌, codes, length, map}
use Rattle.lf_core.specs.Term.{Path, Universe, level_zero, level_succ, level_imax, Term, sort, lam, pi, letin, lit}
use Rattle.lf_core.specs.Substitution.{instantiate}
use Rattle.lf_name.specs.declared.binder.Binder.{Binder}
use Rattle.lf_name.specs.declared.binder.BinderKind.{BinderKind}
use Rattle.lf_name.specs.declared.binder.BinderKind.TheVariants.{Explicit, Implicit}
use Rattle.lf_text.specs.declared.operator.Op.{Op}
use Rattle.lf_text.specs.declared.operator.Op.TheVariants as op
use Rattle.lf_syntax.specs.declared.leaf.Ident.{Ident}
use Rattle.lf_syntax.specs.Tree as written
use Rattle.lf_syntax.specs.Tree.{TermTree, TermTrees, TermOption, BindersTree, LBinderTree, LBinderTrees, ItemTree, ItemTrees, LevelTree, place}
use Rattle.lf_rules.specs.Environment.{Context, nat_type}
use Rattle.lf_elaboration.specs.Forms.{Binding, as_pi, as_sort, as_metavariable}
use Rattle.lf_elaboration.specs.Messages as says
use Rattle.lf_elaboration.specs.Run.{◌>>=◌, ◌>>◌, gives, choose, put, made, opening, room}
use Rattle.lf_elaboration.specs.Part.{
  Part,
  Locals,
  with_local,
  Run,
  Calls,
  Typed,
  Sorted,
  Trailing,
  given,
  instantiated,
  unify,
  whnf,
  placeholder,
  fresh_level,
  fresh_type,
  error,
  error_on,
  mismatch,
  sort_of,
  closed_over,
}
use Rattle.lf_elaboration.specs.Identifiers.{level_of, identifier, constant_named}
use Rattle.lf_elaboration.specs.Closing.{mark, close_binder, sorry_of}
use Rattle.lf_elaboration.specs.Application.{agreed, hole, application}

-- ---- Lists of trees

abbrev pub terms_in : TermTrees → List TermTree
terms_in written.end_terms = []
terms_in (written.term_and t ts) = t ∷ terms_in ts

abbrev pub items_in : ItemTrees → List ItemTree
items_in written.end_items = []
items_in (written.item_and i is) = i ∷ items_in is

-- A binder of one name; without a type where none is written.
pub record OneBinder : Type 0 where
  pub kind : BinderKind
  pub name : Ident
  pub ty : Option TermTree

abbrev pub group_in : BindersTree → List OneBinder
group_in (written.binders at k xs t) = map (λ x. record { kind = k; name = x; ty = Some t }) xs

abbrev pub binders_in : LBinderTree → List OneBinder
binders_in (written.typed b) = group_in b
binders_in (written.plain x) = record { kind = Explicit; name = x; ty = None } ∷ []
binders_in (written.implicit at xs) = map (λ x. record { kind = Implicit; name = x; ty = None }) xs

abbrev pub all_binders : LBinderTrees → List OneBinder
all_binders written.end_binders = []
all_binders (written.binder_and b bs) = binders_in b ++ all_binders bs

abbrev pub binder_of : OneBinder → Binder
binder_of b = record { name = b.name.name; kind = b.kind }

abbrev pub explicit : Path → Binder
explicit x = record { name = x; kind = Explicit }

-- ---- As a type: the weak head form of the term's type is a sort; a metavariable there is unified with a sort of a fresh level.

abbrev pub no_type : Part → Locals → ℕ → Term → Run Universe
no_type P L at T = error_on P L.names at says.type_expected T

abbrev pub sort_at : Part → Calls → Locals → ℕ → Term → Term → Option Universe → Option ℕ → Run Universe
sort_at P c L at T W (Some l) m = gives l
sort_at P c L at T W None (Some m) = do
  l ← fresh_level
  is_sort ← unify c L W (sort l)
  choose is_sort (gives l) (no_type P L at T)
sort_at P c L at T W None None = no_type P L at T

abbrev pub as_type : Part → Calls → Locals → TermTree → Run Sorted
as_type P c L s = do
  r ← c.elaborate given L s None
  T ← instantiated r.ty
  W ← whnf c L T
  l ← sort_at P c L (place s) T W (as_sort W) (as_metavariable W)
  gives (record { term = r.term; level = l })

-- ---- `fun`, binder by binder, at the place of its first token

-- The pi that is expected.
abbrev pub expected_pi : Calls → Locals → Option Term → Run (Option Binding)
expected_pi c L None = gives None
expected_pi c L (Some E) = do
  T ← instantiated E
  W ← whnf c L T
  gives (as_pi W)

abbrev pub fits_domain : Part → Calls → Locals → ℕ → Term → Option Binding → Run Term
fits_domain P c L at A None = gives A
fits_domain P c L at A (Some p) = do
  fits ← unify c L p.domain A
  choose fits (gives A) (mismatch P L at A p.domain)

-- The written type, which has to fit the expected domain; else that domain, or a metavariable of the binder's name.
abbrev pub binder_type : Part → Calls → Locals → ℕ → OneBinder → Option TermTree → Option Binding → Run Term
binder_type P c L at b (Some s) p = do
  A ← as_type P c L s
  fits_domain P c L at A.term p
binder_type P c L at b None (Some p) = gives p.domain
binder_type P c L at b None None = do
  A ← fresh_type L b.name.at
  gives A.term

abbrev pub opened_codomain : Context → Option Binding → Run (Option Term)
opened_codomain C None = room C >> gives None
opened_codomain C (Some p) = do
  B ← opening C p.body
  gives (Some B)

-- The lambda over the local of number k, and its pi.
abbrev pub lambda_over : ℕ → Binder → Term → Typed → Run Typed
lambda_over k x A r = do
  b ← closed_over k r.term
  B ← closed_over k r.ty
  f ← put (lam x A b)
  F ← put (pi x A B)
  gives (record { term = f; ty = F })

-- Where a pi is expected the expected type is used up by it.
abbrev pub agreed_unless : Option Binding → Run (Unit {0}) → Run (Unit {0})
agreed_unless None m = m
agreed_unless (Some p) m = gives tt

abbrev pub function : Part → Calls → ℕ → TermTree → Locals → List OneBinder → Option Term → Run Typed
function P c at body L [] E = c.elaborate given L body E
function P c at body L (b ∷ bs) E = do
  p ← expected_pi c L E
  A ← binder_type P c L at b b.ty p
  B ← opened_codomain L.types p
  k ← mark
  r ← function P c at body (with_local L b.name.name A) bs B
  close_binder P c (with_local L b.name.name A) k.terms (length L.types)
  f ← lambda_over (length L.types) (binder_of b) A r
  agreed_unless p (agreed P c L at f.ty E)
  gives f

-- ---- `∀` and arrows: the parts as types, in a sort of their levels' impredicative maximum.

abbrev pub domain_type : Part → Calls → Locals → OneBinder → Option TermTree → Run Sorted
domain_type P c L b (Some s) = as_type P c L s
domain_type P c L b None = fresh_type L b.name.at

abbrev pub pi_over : ℕ → Binder → Sorted → Sorted → Run Sorted
pi_over k x A B = do
  C ← closed_over k B.term
  F ← put (pi x A.term C)
  gives (record { term = F; level = level_imax A.level B.level })

abbrev pub pis : Part → Calls → TermTree → Locals → List OneBinder → Run Sorted
pis P c body L [] = as_type P c L body
pis P c body L (b ∷ bs) = do
  A ← domain_type P c L b b.ty
  room L.types
  k ← mark
  B ← pis P c body (with_local L b.name.name A.term) bs
  close_binder P c (with_local L b.name.name A.term) k.terms (length L.types)
  pi_over (length L.types) (binder_of b) A B

-- An arrow opens no local; its binder is called `a`.
abbrev pub arrow : Part → Calls → Locals → TermTree → TermTree → Run Sorted
arrow P c L l r = do
  A ← as_type P c L l
  B ← as_type P c L r
  F ← put (pi (explicit (codes "a" ∷ [])) A.term B.term)
  gives (record { term = F; level = level_imax A.level B.level })

-- A term whose type is known, unified with the expected type.
abbrev pub against : Part → Calls → Locals → ℕ → Option Term → Term → Term → Run Typed
against P c L at E t A = do
  agreed P c L at A E
  gives (record { term = t; ty = A })

-- A type, as a term in its sort.
abbrev pub in_sort : Part → Calls → Locals → ℕ → Option Term → Run Sorted → Run Typed
in_sort P c L at E m = do
  A ← m
  S ← put (sort A.level)
  against P c L at E A.term S

-- ---- `let`: the type, the value against it, and the body, which is handed the expected type. The local has no value.

abbrev pub let_value : Part → Calls → Locals → TermOption → TermTree → Run Typed
let_value P c L written.no_term v = c.elaborate given L v None
let_value P c L (written.some_term s) v = do
  A ← as_type P c L s
  r ← c.elaborate given L v (Some A.term)
  gives (record { term = r.term; ty = A.term })

abbrev pub let_in : Part → Calls → Locals → Ident → TermOption → TermTree → TermTree → Option Term → Run Typed
let_in P c L x s v body E = do
  r ← let_value P c L s v
  room L.types
  k ← mark
  b ← c.elaborate given (with_local L x.name r.ty) body E
  close_binder P c (with_local L x.name r.ty) k.terms (length L.types)
  d ← closed_over (length L.types) b.term
  B ← closed_over (length L.types) b.ty
  T ← made (instantiate B r.term)
  t ← put (letin (explicit x.name) r.ty r.term d)
  gives (record { term = t; ty = T })

-- ---- Sorts, holes, blocks, `sorry`

abbrev pub level_or_zero : List Path → Option LevelTree → Run Universe
level_or_zero names None = gives level_zero
level_or_zero names (Some l) = level_of names l

abbrev pub sort_term : Part → Calls → Locals → ℕ → Option Term → Universe → Run Typed
sort_term P c L at E l = in_sort P c L at E (gives (record { term = sort l; level = level_succ l }))

abbrev pub type_term : Part → Calls → Locals → ℕ → Option Term → Option LevelTree → Run Typed
type_term P c L at E l = level_or_zero P.levels l >>= (λ k. sort_term P c L at E (level_succ k))

abbrev pub sort_term_at : Part → Calls → Locals → ℕ → Option Term → Option LevelTree → Run Typed
sort_term_at P c L at E l = level_or_zero P.levels l >>= (λ k. sort_term P c L at E k)

-- `_`: a metavariable of the expected type; without one, of a type that isn't known yet.
abbrev pub hole_of : Locals → ℕ → Term → Run Typed
hole_of L at A = do
  m ← placeholder L at A
  gives (record { term = m; ty = A })

abbrev pub hole_term : Locals → ℕ → Option Term → Run Typed
hole_term L at (Some E) = hole_of L at E
hole_term L at None = do
  A ← fresh_type L at
  hole_of L at A.term

-- `by` needs an expected type, and is run later.
abbrev pub by_block : Locals → ℕ → List ItemTree → Option Term → Run Typed
by_block L at items (Some E) = do
  m ← hole L at (Some items) E
  gives (record { term = m; ty = E })
by_block L at items None = error at says.undetermined_placeholder

-- `sorry`: `sorryAx` of the expected type, at the level of its sort.
abbrev pub sorry_at : Universe → Term → Run Typed
sorry_at l A = do
  t ← put (sorry_of l A)
  gives (record { term = t; ty = A })

abbrev pub sorry_term : Part → Calls → Locals → ℕ → Option Term → Run Typed
sorry_term P c L at (Some E) = do
  A ← instantiated E
  l ← sort_of P c L at A
  sorry_at l A
sorry_term P c L at None = do
  A ← fresh_type L at
  sorry_at A.level A.term

-- `(e : T)` has the type T; `(e)` hands the expected type on.
abbrev pub parenthesized : Part → Calls → Trailing → Locals → ℕ → TermTree → TermOption → Option Term → Run Typed
parenthesized P c t L at s written.no_term E = c.elaborate t L s E
parenthesized P c t L at s (written.some_term u) E = do
  A ← as_type P c L u
  r ← c.elaborate given L s (Some A.term)
  against P c L at E r.term A.term

-- ---- Applications

-- An identifier, with the `@` and the levels that are written with it.
pub record Named : Type 0 where
  pub at_sign : Bool
  pub name : Ident
  pub levels : List LevelTree

abbrev pub as_named : TermTree → Option Named
as_named (written.ident at e x ls) = Some (record { at_sign = e; name = x; levels = ls })
as_named (written.numeral n) = None
as_named (written.hole at) = None
as_named (written.sorry_term at) = None
as_named (written.prop at) = None
as_named (written.type_u at l) = None
as_named (written.sort_u at l) = None
as_named (written.paren at s u) = None
as_named (written.app at h ss) = None
as_named (written.oper at o l r) = None
as_named (written.not_term at s) = None
as_named (written.fun_term at bs s) = None
as_named (written.forall_term at bs s) = None
as_named (written.let_term at x u v s) = None
as_named (written.by_term at is) = None
as_named (written.arrow at b s) = None

-- An identifier as the function isn't a call of its own.
abbrev pub head : Part → Calls → Locals → TermTree → Option Named → Run Typed
head P c L h (Some f) = identifier P L f.name f.levels
head P c L h None = c.elaborate given L h None

abbrev pub has_at_sign : Option Named → Bool
has_at_sign (Some f) = f.at_sign
has_at_sign None = false

abbrev pub applied : Part → Calls → Trailing → Locals → ℕ → TermTree → List TermTree → Option Term → Run Typed
applied P c t L at h args E = do
  f ← head P c L h (as_named h)
  application P c L at (has_at_sign (as_named h)) t f args E

-- An operator is the application of a constant, which no candidates are tried for.
abbrev pub of_nat : List ℕ → Path
of_nat f = codes "Nat" ∷ f ∷ []

abbrev pub operator : Part → Calls → Trailing → Locals → ℕ → Path → List TermTree → Option Term → Run Typed
operator P c t L at n args E = do
  f ← constant_named P at n
  application P c L at false t f args E

abbrev pub operation : Part → Calls → Trailing → Locals → ℕ → Op → TermTree → TermTree → Option Term → Run Typed
operation P c t L at op.Arrow l r E = in_sort P c L at E (arrow P c L l r)
operation P c t L at op.Iff l r E = operator P c t L at (codes "Iff" ∷ []) (l ∷ r ∷ []) E
operation P c t L at op.Or l r E = operator P c t L at (codes "Or" ∷ []) (l ∷ r ∷ []) E
operation P c t L at op.And l r E = operator P c t L at (codes "And" ∷ []) (l ∷ r ∷ []) E
operation P c t L at op.Eq l r E = operator P c t L at (codes "Eq" ∷ []) (l ∷ r ∷ []) E
operation P c t L at op.Ne l r E = operator P c t L at (codes "Ne" ∷ []) (l ∷ r ∷ []) E
operation P c t L at op.Add l r E = operator P c t L at (of_nat (codes "add")) (l ∷ r ∷ []) E
operation P c t L at op.Sub l r E = operator P c t L at (of_nat (codes "sub")) (l ∷ r ∷ []) E
operation P c t L at op.Mul l r E = operator P c t L at (of_nat (codes "mul")) (l ∷ r ∷ []) E
operation P c t L at op.Div l r E = operator P c t L at (of_nat (codes "div")) (l ∷ r ∷ []) E
operation P c t L at op.Mod l r E = operator P c t L at (of_nat (codes "mod")) (l ∷ r ∷ []) E

-- ---- All forms

unfoldable pub elaborate_body : Part → Calls → Trailing → Locals → TermTree → Option Term → Run Typed
elaborate_body P c t L (written.ident at e x ls) E = applied P c t L at (written.ident at e x ls) [] E
elaborate_body P c t L (written.app at h ss) E = applied P c t L at h (terms_in ss) E
elaborate_body P c t L (written.oper at o l r) E = operation P c t L at o l r E
elaborate_body P c t L (written.not_term at s) E = operator P c t L at (codes "Not" ∷ []) (s ∷ []) E
elaborate_body P c t L (written.fun_term at bs s) E = function P c at s L (all_binders bs) E
elaborate_body P c t L (written.forall_term at bs s) E = in_sort P c L at E (pis P c s L (all_binders bs))
elaborate_body P c t L (written.arrow at b s) E = in_sort P c L at E (pis P c s L (group_in b))
elaborate_body P c t L (written.let_term at x u v s) E = let_in P c L x u v s E
elaborate_body P c t L (written.hole at) E = hole_term L at E
elaborate_body P c t L (written.by_term at is) E = by_block L at (items_in is) E
elaborate_body P c t L (written.sorry_term at) E = sorry_term P c L at E
elaborate_body P c t L (written.numeral n) E = against P c L n.at E (lit n.value) nat_type
elaborate_body P c t L (written.paren at s u) E = parenthesized P c t L at s u E
elaborate_body P c t L (written.prop at) E = sort_term P c L at E level_zero
elaborate_body P c t L (written.type_u at l) E = type_term P c L at E l
elaborate_body P c t L (written.sort_u at l) E = sort_term_at P c L at E l
