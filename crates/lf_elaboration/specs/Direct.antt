-- What stands behind a proof item, and the items that leave at most one goal: `·`, `exact`, `rfl`, `assumption`, `sorry`, `intro`, `have`.
use Rattle.std.specs.Prelude.{ℕ, false, Option, Some, None, List, [], ◌∷◌, codes, length}
use Rattle.lf_core.specs.Term.{Term, free, app, lam}
use Rattle.lf_core.specs.Substitution.{abstract}
use Rattle.lf_name.specs.declared.binder.Binder.{Binder}
use Rattle.lf_name.specs.declared.binder.BinderKind.TheVariants.{Explicit}
use Rattle.lf_syntax.specs.declared.leaf.Ident.{Ident}
use Rattle.lf_syntax.specs.Tree as written
use Rattle.lf_syntax.specs.Tree.{TermTree, ItemTrees}
use Rattle.lf_elaboration.specs.Forms.{Binding}
use Rattle.lf_elaboration.specs.Messages as says
use Rattle.lf_elaboration.specs.Messages.{ProofItem}
use Rattle.lf_elaboration.specs.Run.{◌>>=◌, ◌>>◌, gives, gives_up, checks, put, made, opening, room}
use Rattle.lf_elaboration.specs.Part.{Part, Locals, with_local, Run, Calls, given, instantiated, error, sort_of}
use Rattle.lf_elaboration.specs.Closing.{mark, sorry_of, none_escapes, close}
use Rattle.lf_elaboration.specs.Terms.{items_in, as_type}
use Rattle.lf_elaboration.specs.Step as step

-- A goal that an item leaves; in `apply` it is the type of a metavariable, which its proof is to stand for.
pub record Goal : Type 0 where
  pub ty : Term
  pub metavariable : Option ℕ

abbrev pub plain : Term → Goal
plain A = record { ty = A; metavariable = None }

-- What is behind an item, as the item may ask it: the proofs of the goals that the item leaves, in order.
abbrev pub Rest : Type 0
Rest = Locals → List Goal → Run (List Term)

abbrev pub fails_as : {A : Type 0} → ℕ → ProofItem → Run A
fails_as at i = error at (says.item_fails i)

-- The rest proves the one goal.
abbrev pub sole : List Term → Run Term
sole (p ∷ []) = gives p
sole [] = gives_up
sole (p ∷ q ∷ ps) = gives_up

abbrev pub proves_one : Rest → Locals → Term → Run Term
proves_one rest L goal = rest L (plain goal ∷ []) >>= sole

-- The item leaves no goal: this is the proof.
abbrev pub ends_with : Rest → Locals → Term → Run Term
ends_with rest L p = rest L [] >> gives p

-- ---- Terms of items: the end of each counts as the end of a part.

abbrev pub closed_term : Part → Calls → Locals → TermTree → Option Term → Run Term
closed_term P c L s E = do
  k ← mark
  r ← c.elaborate given L s E
  close P c L k.terms (Some k.levels)
  instantiated r.term

abbrev pub closed_type : Part → Calls → Locals → TermTree → Run Term
closed_type P c L s = do
  k ← mark
  A ← as_type P c L s
  close P c L k.terms (Some k.levels)
  instantiated A.term

-- A proof as the body of a lambda over the local of number k, which closes.
abbrev pub lambda_over : ℕ → Binder → Term → Term → Run Term
lambda_over k x A p = do
  none_escapes k
  b ← made (abstract p k)
  put (lam x A b)

-- ---- ·, exact, rfl, assumption, sorry

abbrev pub block : Calls → Locals → Term → ItemTrees → Rest → Run Term
block c L goal is rest = do
  p ← c.prove L goal (items_in is)
  ends_with rest L p

abbrev pub exact : Part → Calls → Locals → Term → TermTree → Rest → Run Term
exact P c L goal s rest = do
  p ← closed_term P c L s (Some goal)
  ends_with rest L p

abbrev pub rfl_term : ℕ → TermTree
rfl_term at = written.ident at false (record { at = at; name = codes "rfl" ∷ [] }) []

abbrev pub by_assumption : ℕ → Locals → Rest → Option ℕ → Run Term
by_assumption at L rest (Some k) = ends_with rest L (free k)
by_assumption at L rest None = fails_as at says.Assumption

abbrev pub assumption : Calls → ℕ → Locals → Term → Rest → Run Term
assumption c at L goal rest = do
  k ← checks (step.assumption c.check L.types goal)
  by_assumption at L rest k

abbrev pub sorry : Part → Calls → ℕ → Locals → Term → Rest → Run Term
sorry P c at L goal rest = do
  l ← sort_of P c L at goal
  p ← put (sorry_of l goal)
  ends_with rest L p

-- ---- intro: a local for each name, called so, of the pi's kind.

abbrev pub introduced : ℕ → Locals → Ident → Option Binding → (Locals → Term → Run Term) → Run Term
introduced at L x (Some p) next = do
  B ← opening L.types p.body
  t ← next (with_local L x.name p.domain) B
  lambda_over (length L.types) (record { name = x.name; kind = p.binder.kind }) p.domain t
introduced at L x None next = fails_as at says.Intro

abbrev pub intro : Calls → ℕ → List Ident → Rest → Locals → Term → Run Term
intro c at [] rest L goal = proves_one rest L goal
intro c at (x ∷ xs) rest L goal = do
  p ← checks (step.intro c.check L.types goal)
  introduced at L x p (intro c at xs rest)

-- ---- have: the type, the value against it; then the rest with a local of that type, under a lambda that is applied to the value.

abbrev pub have : Part → Calls → Locals → Term → Ident → TermTree → TermTree → Rest → Run Term
have P c L goal x u v rest = do
  A ← closed_type P c L u
  e ← closed_term P c L v (Some A)
  room L.types
  p ← proves_one rest (with_local L x.name A) goal
  f ← lambda_over (length L.types) (record { name = x.name; kind = Explicit }) A p
  put (app f e)
