-- Recursive fields behind the parameters.
use Rattle.std.proofs.Common.{◌≡◌, ℕ, zero, suc, ◌-◌, ◌<◌, refl, arith}
use Rattle.lf_core.specs.Term.{Path, Term, pi}
use Rattle.lf_name.specs.declared.binder.Binder.{Binder}
use Rattle.lf_elaboration.specs.CaseEquation.{recursive_fields}

pub passed : (I : Path) (n : ℕ) (x : Binder) (A B : Term) → 0 < n → recursive_fields I n (pi x A B) ≡ recursive_fields I (n - 1) B
passed I zero x A B h = absurd (omega (arith, h))
passed I (suc n) x A B h = let d : suc n - 1 ≡ n = omega arith in rw d refl
