-- Statements with their proofs, closed over the binders that they were opened from; and what the kernel accepts of them. That a definition at
-- its arguments is its body is the first.
use Rattle.std.specs.Prelude.{ℕ, zero, suc, Option, Some, None, List, [], ◌∷◌, codes, length}
use Rattle.lf_core.specs.Term.{Path, Term, const, lam, pi}
use Rattle.lf_core.specs.Spine.{apply}
use Rattle.lf_core.specs.Substitution.{abstract}
use Rattle.lf_core.specs.declared.constant.ConstInfo.{ConstInfo}
use Rattle.lf_core.specs.declared.constant.ConstKind.TheVariants.{Theorem}
use Rattle.lf_core.specs.declared.constant.Detail.TheVariants.{Plain}
use Rattle.lf_rules.specs.Environment.{Context, with}
use Rattle.lf_rules.specs.Telescope.{Telescope, types, variables, Opened, behind}
use Rattle.lf_rules.specs.Recursor.{parameters_from}
use Rattle.lf_checker.specs.View.{View}
use Rattle.lf_checker.specs.Run.{Run, ◌>>=◌, gives, put, made, opening}
use Rattle.lf_checker.specs.Calls.{checked, Calls}
use Rattle.lf_checker.specs.Infer.{sort_of}
use Rattle.lf_checker.specs.Checker.{add_header, add_decl}
use Rattle.lf_elaboration.specs.Forms.{Binding, as_pi, as_lambda}
use Rattle.lf_elaboration.specs.Metavariables.{leading_lambdas}
use Rattle.lf_elaboration.specs.Equations.{eq_name, eq_part}

-- ---- Binders opened and closed again, at their costs

abbrev pub open_binder : Context → Option Binding → Term → (Context → Term → Run Opened) → Run Opened
open_binder C None t rest = gives (record { locals = []; rest = t })
open_binder C (Some p) t rest = do
  o ← opening C p.body
  r ← rest (with C p.domain) o
  gives (behind p.binder p.domain r)

-- At most so many lambdas, or pis, of a term.
abbrev pub open_lambdas : ℕ → Context → Term → Run Opened
open_lambdas zero C t = gives (record { locals = []; rest = t })
open_lambdas (suc n) C t = open_binder C (as_lambda t) t (open_lambdas n)

abbrev pub open_pis : ℕ → Context → Term → Run Opened
open_pis zero C t = gives (record { locals = []; rest = t })
open_pis (suc n) C t = open_binder C (as_pi t) t (open_pis n)

-- Pis, or lambdas, over the telescope that begins at k.
abbrev pub pis_closed : ℕ → Telescope → Term → Run Term
pis_closed k [] t = put t
pis_closed k (x ∷ xs) t = do
  r ← pis_closed (suc k) xs t
  b ← made (abstract r k)
  put (pi x.binder x.ty b)

abbrev pub lambdas_closed : ℕ → Telescope → Term → Run Term
lambdas_closed k [] t = put t
lambdas_closed k (x ∷ xs) t = do
  r ← lambdas_closed (suc k) xs t
  b ← made (abstract r k)
  put (lam x.binder x.ty b)

-- ---- Statements and proofs

pub record Statement : Type 0 where
  pub ty : Term
  pub proof : Term

abbrev pub theorem : Path → List Path → Statement → ℕ → ConstInfo
theorem n levels s h = record { name = n; kind = Theorem; levels = levels; ty = s.ty; value = Some s.proof; height = h; detail = Plain }

-- What the kernel accepts of it.
abbrev pub accepted : View → ℕ → Path → List Path → Option Statement → Run (Option ConstInfo)
accepted V depth n levels None = gives None
accepted V depth n levels (Some s) = do
  l ← add_header V depth n s.ty
  h ← add_decl V depth (theorem n levels s 0)
  gives (Some (theorem n levels s h))

-- Over the telescope: that the two terms, of the type A, are equal, by reflexivity of the first.
abbrev pub by_reflexivity : Calls → Telescope → Term → Term → Run (Option Statement)
by_reflexivity c xs s t = do
  A ← c.infer checked (types xs) s
  l ← sort_of c checked (types xs) A
  T ← pis_closed 0 xs (apply (const eq_name (l ∷ [])) (A ∷ s ∷ t ∷ []))
  p ← lambdas_closed 0 xs (apply (const (eq_part (codes "refl")) (l ∷ [])) (A ∷ s ∷ []))
  gives (Some (record { ty = T; proof = p }))

-- ---- eq_1 and eq_def: of a definition with the value `fun bs => e`, that `f bs = e`.

abbrev pub self : Path → List Path → Telescope → Term
self f levels xs = apply (const f (parameters_from 0 (length levels))) (variables 0 xs)

abbrev pub unfolding_of : Calls → Path → List Path → Term → Run (Option Statement)
unfolding_of c f levels v = do
  o ← open_lambdas (leading_lambdas v) [] v
  by_reflexivity c o.locals (self f levels o.locals) o.rest
