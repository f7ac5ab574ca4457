-- Values: a written term against a stated type, checked by the kernel; and what stands for a value that fails.
use Rattle.std.specs.Prelude.{ℕ, Bool, not, ◌&&◌, ◌||◌, Option, Some, None, List, [], ◌∷◌, length}
use Rattle.lf_core.specs.Term.{Term, lam}
use Rattle.lf_core.specs.declared.constant.ConstInfo.{ConstInfo}
use Rattle.lf_core.specs.declared.constant.ConstKind.TheVariants.{Def}
use Rattle.lf_syntax.specs.Tree.{TermTree}
use Rattle.lf_checker.specs.View.{View}
use Rattle.lf_checker.specs.Run as checker
use Rattle.lf_checker.specs.Checker.{add_header, add_decl, height_of}
use Rattle.lf_elaboration.specs.Run.{◌>>=◌, ◌>>◌, gives, room}
use Rattle.lf_elaboration.specs.Part.{Part, Locals, with_local, Run, Calls, Typed, given, instantiated}
use Rattle.lf_elaboration.specs.Closing.{mark, close, close_binder, sorry_of}
use Rattle.lf_elaboration.specs.Terms.{OneBinder, binder_of, domain_type, lambda_over}
use Rattle.lf_msg.specs.declared.diagnostic.Diagnostic.TheVariants.{UsesSorry}
use Rattle.lf_document.specs.Task as task
use Rattle.lf_document.specs.Task.{Task, Judged, right, in_part, tells_if}
use Rattle.lf_document.specs.Setting.{Setting, Declaration, nesting, calls_of, no_locals, by_kernel}
use Rattle.lf_document.specs.Binders.{under_pis}
use Rattle.lf_document.specs.Constants.{Header, Valued, without_value, with_value, is_marked}

-- ---- The value of a stated type, whose first n pis are those of the declaration's binders

abbrev pub against : Calls → TermTree → Locals → Term → Run Term
against c s L B = do
  r ← c.elaborate given L s (Some B)
  gives r.term

abbrev pub whole_value : Part → ℕ → Term → TermTree → Run Term
whole_value P n T s = do
  t ← under_pis P (calls_of P) lam (against (calls_of P) s) n no_locals T
  close P (calls_of P) no_locals 0 (Some 0)
  instantiated t

abbrev pub accepted : Part → ConstInfo → Term → Run Valued
accepted P c t = do
  h ← by_kernel P (add_decl P.view nesting (with_value c (record { term = t; height = 0 })))
  gives (record { term = t; height = h })

abbrev pub written_value : Part → ConstInfo → ℕ → TermTree → Run (Judged Valued)
written_value P c n s = do
  t ← whole_value P n c.ty s
  v ← accepted P c t
  gives (right v)

-- ---- A value whose part was ended by an error is `sorryAx` of the type, at the level of its sort; the name stays.

abbrev pub height_read : checker.Answer ℕ → Task ℕ
height_read (checker.done h u) = task.gives h
height_read (checker.refused e u) = task.gives 0
height_read checker.out = task.gives 0
height_read (checker.need k) = task.needs k

abbrev pub value_or_sorry : View → Header → Option Valued → Task Valued
value_or_sorry V h (Some v) = task.gives v
value_or_sorry V h None = task.◌>>=◌ (height_read (height_of V (sorry_of h.sort h.info.ty) 0))
    (λ k. task.gives (record { term = sorry_of h.sort h.info.ty; height = k }))

-- The warning comes behind the value, where no error came from the header or the value.
abbrev pub warned : ℕ → Bool → ConstInfo → Task (Unit {0})
warned at erred c = tells_if (is_marked c && not erred) at UsesSorry

-- The value of a header, in a part of its own.
abbrev pub completed : Setting → View → ℕ → Header → Run (Judged Valued) → Task Valued
completed X V at h m = task.◌>>=◌ (in_part X.budget at m) λ r.
    task.◌>>=◌ (value_or_sorry V h r.value) λ v.
    task.◌>>◌ (warned at (h.erred || r.erred) (with_value h.info v)) (task.gives v)

-- ---- A definition without a stated type, whole, in one part. The types of its binders are looked up from the namespace, and the value from
-- the declared name.

abbrev pub whole_function : Part → Part → TermTree → Locals → List OneBinder → Run Typed
whole_function P Q s L [] = (calls_of Q).elaborate given L s None
whole_function P Q s L (b ∷ bs) = do
  A ← domain_type P (calls_of P) L b b.ty
  room L.types
  k ← mark
  r ← whole_function P Q s (with_local L b.name.name A.term) bs
  close_binder Q (calls_of Q) (with_local L b.name.name A.term) k.terms (length L.types)
  lambda_over (length L.types) (binder_of b) A.term r

abbrev pub definition_of : Part → Declaration → Term → Term → Run (Judged (List ConstInfo))
definition_of Q D t T = do
  l ← by_kernel Q (add_header Q.view nesting D.name T)
  v ← accepted Q (without_value D.name Def D.levels T) t
  gives (right (with_value (without_value D.name Def D.levels T) v ∷ []))

abbrev pub whole_definition : Part → Part → Declaration → TermTree → Run (Judged (List ConstInfo))
whole_definition P Q D s = do
  r ← whole_function P Q s no_locals D.binders
  close Q (calls_of Q) no_locals 0 (Some 0)
  t ← instantiated r.term
  T ← instantiated r.ty
  definition_of Q D t T
