-- Written binders, opened for what stands behind them and closed again; and the pis of a type, opened for a value.
use Rattle.std.specs.Prelude.{ℕ, zero, suc, Option, Some, None, List, [], ◌∷◌, length}
use Rattle.lf_core.specs.Term.{Term, pi}
use Rattle.lf_name.specs.declared.binder.Binder.{Binder}
use Rattle.lf_elaboration.specs.Forms.{Binding, as_pi}
use Rattle.lf_elaboration.specs.Run.{◌>>=◌, ◌>>◌, gives, gives_up, put, opening, room}
use Rattle.lf_elaboration.specs.Part.{Part, Locals, with_local, Run, Calls, closed_over}
use Rattle.lf_elaboration.specs.Closing.{mark, close_binder}
use Rattle.lf_elaboration.specs.Terms.{OneBinder, binder_of, domain_type}

-- What is made, over the local of a number, of a binder of this type and of what stands behind it.
abbrev pub Over : Type 0 → Type 0
Over A = ℕ → Binder → Term → A → Run A

abbrev pub pi_over : Over Term
pi_over k x A t = do
  B ← closed_over k t
  put (pi x A B)

abbrev pub nothing_over : {A : Type 0} → Over A
nothing_over k x A r = gives r

-- Binder by binder, each name by itself: its type, and what stands behind it.
abbrev pub under_binders : {A : Type 0} → Part → Calls → Over A → (Locals → Run A) → Locals → List OneBinder → Run A
under_binders P c over end L [] = end L
under_binders P c over end L (b ∷ bs) = do
  A ← domain_type P c L b b.ty
  room L.types
  k ← mark
  r ← under_binders P c over end (with_local L b.name.name A.term) bs
  close_binder P c (with_local L b.name.name A.term) k.terms (length L.types)
  over (length L.types) (binder_of b) A.term r

-- A pi of a type, opened for what stands under it, which becomes a lambda or a pi again.
abbrev pub under_pi : Part → Calls → (Binder → Term → Term → Term) → Locals → Option Binding → (Locals → Term → Run Term) → Run Term
under_pi P c over L (Some p) next = do
  B ← opening L.types p.body
  k ← mark
  t ← next (with_local L p.binder.name p.domain) B
  close_binder P c (with_local L p.binder.name p.domain) k.terms (length L.types)
  b ← closed_over (length L.types) t
  put (over p.binder p.domain b)
under_pi P c over L None next = gives_up

-- So many of them, with what is left of the type behind them.
abbrev pub under_pis : Part → Calls → (Binder → Term → Term → Term) → (Locals → Term → Run Term) → ℕ → Locals → Term → Run Term
under_pis P c over end zero L T = end L T
under_pis P c over end (suc n) L T = under_pi P c over L (as_pi T) (under_pis P c over end n)
