-- Parts of the definition's runs that are functions of their own in the code. A device of the proof.
use Rattle.std.specs.Prelude.{ℕ, Option, Some, None, [], ◌∷◌, codes}
use Rattle.lf_core.specs.Term.{Path, Universe, Term, level_imax, pi, letin}
use Rattle.lf_core.specs.Substitution.{instantiate}
use Rattle.lf_name.specs.declared.binder.Binder.{Binder}
use Rattle.lf_text.specs.declared.operator.Op.{Op}
use Rattle.lf_text.specs.declared.operator.Op.TheVariants as op
use Rattle.lf_elaboration.specs.Run.{◌>>=◌, gives, put, made}
use Rattle.lf_elaboration.specs.Part.{Run, Typed, Sorted, closed_over}
use Rattle.lf_elaboration.specs.Terms.{explicit, lambda_over, pi_over, of_nat}

abbrev pub arrow_over : Sorted → Sorted → Run Sorted
arrow_over A B = do
  F ← put (pi (explicit (codes "a" ∷ [])) A.term B.term)
  gives (record { term = F; level = level_imax A.level B.level })

abbrev pub let_closed : ℕ → Path → Typed → Term → Term → Run Typed
let_closed k x r A d = do
  B ← closed_over k A
  T ← made (instantiate B r.term)
  t ← put (letin (explicit x) r.ty r.term d)
  gives (record { term = t; ty = T })

abbrev pub let_over : ℕ → Path → Typed → Typed → Run Typed
let_over k x r b = do
  d ← closed_over k b.term
  let_closed k x r b.ty d

-- By the parts of what they are made of.
unfoldable pub lambda_of : ℕ → Binder → Term → Term → Term → Run Typed
lambda_of k x A t T = lambda_over k x A (record { term = t; ty = T })

unfoldable pub pi_of : ℕ → Binder → Term → Universe → Term → Universe → Run Sorted
pi_of k x A l B m = pi_over k x (record { term = A; level = l }) (record { term = B; level = m })

unfoldable pub let_of : ℕ → Path → Typed → Term → Term → Run Typed
let_of k x r t T = let_over k x r (record { term = t; ty = T })

abbrev pub operator_name : Op → Option Path
operator_name op.Arrow = None
operator_name op.Iff = Some (codes "Iff" ∷ [])
operator_name op.Or = Some (codes "Or" ∷ [])
operator_name op.And = Some (codes "And" ∷ [])
operator_name op.Eq = Some (codes "Eq" ∷ [])
operator_name op.Ne = Some (codes "Ne" ∷ [])
operator_name op.Add = Some (of_nat (codes "add"))
operator_name op.Sub = Some (of_nat (codes "sub"))
operator_name op.Mul = Some (of_nat (codes "mul"))
operator_name op.Div = Some (of_nat (codes "div"))
operator_name op.Mod = Some (of_nat (codes "mod"))
