-- Equations between terms, and rewriting by one: a step of a proof that reads no written term and doesn't unify.
use Rattle.std.specs.Prelude.{ℕ, if◌then◌else◌, Option, Some, None, List, [], ◌∷◌, codes}
use Rattle.lf_core.specs.Term.{Path, Universe, level_zero, Term, bound, const, lam}
use Rattle.lf_core.specs.Same.{same_path}
use Rattle.lf_core.specs.Spine.{apply, head_of, arguments_of}
use Rattle.lf_core.specs.Substitution.{raise, instantiate}
use Rattle.lf_rules.specs.Recursor.{named}
use Rattle.lf_checker.specs.Run.{Run, ◌>>=◌, gives, put, made}
use Rattle.lf_elaboration.specs.Forms.{Instance, as_constant}
use Rattle.lf_elaboration.specs.Motive.{motive}
use Rattle.lf_elaboration.specs.Step.{Step, explicit}

-- `@Eq α l r`, at the levels of `Eq`.
pub record Equation : Type 0 where
  pub levels : List Universe
  pub ty : Term
  pub left : Term
  pub right : Term

abbrev pub eq_name : Path
eq_name = named (codes "Eq")

abbrev pub eq_part : List ℕ → Path
eq_part word = codes "Eq" ∷ word ∷ []

abbrev pub equation_at : Option Instance → List Term → Option Equation
equation_at (Some e) (A ∷ l ∷ r ∷ []) = if same_path e.name eq_name then Some (record { levels = e.levels; ty = A; left = l; right = r }) else None
equation_at e xs = None

abbrev pub as_equation : Term → Option Equation
as_equation t = equation_at (as_constant (head_of t)) (arguments_of t)

abbrev pub equation_term : Equation → Term
equation_term e = apply (const eq_name e.levels) (e.ty ∷ e.left ∷ e.right ∷ [])

abbrev pub turned : Equation → Equation
turned e = record { levels = e.levels; ty = e.ty; left = e.right; right = e.left }

-- `@Eq.symm α l r h`
abbrev pub symmetric : Equation → Term → Term
symmetric e h = apply (const (eq_part (codes "symm")) e.levels) (e.ty ∷ e.left ∷ e.right ∷ h ∷ [])

-- ---- A rule whose subterm is fixed, by a proof of the equation: the goal has the right side wherever it had the left.

-- `fun (z : α) (_ : r = z) => G`, of the motive G with z loose.
abbrev pub rewriting_motive : Equation → Term → Term
rewriting_motive e m =
    lam (explicit (codes "z")) e.ty (lam (explicit (codes "_")) (apply (const eq_name e.levels) (e.ty ∷ e.right ∷ bound 0 ∷ [])) (raise 0 1 m))

abbrev pub rewriting_head : Equation → Term → Term
rewriting_head e m = apply (const (eq_part (codes "rec")) (level_zero ∷ e.levels)) (e.ty ∷ e.right ∷ rewriting_motive e m ∷ [])

abbrev pub by_motive : Equation → Term → Option Term → Run (Option Step)
by_motive e h None = gives None
by_motive e h (Some t) = do
  m ← made t
  new ← made (instantiate m e.right)
  head ← put (rewriting_head e m)
  turned_proof ← put (symmetric e h)
  gives (Some (record { head = Some head; goals = new ∷ []; pads = None ∷ []; tail = e.left ∷ turned_proof ∷ []; asked = None }))

abbrev pub rewritten : Term → Equation → Term → Run (Option Step)
rewritten goal e h = by_motive e h (motive goal e.left)
