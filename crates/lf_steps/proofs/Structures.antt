-- Fields and parameters, by the number of parameters that are left.
use Rattle.std.proofs.Common.{◌≡◌, ℕ, zero, suc, ◌-◌, ◌<◌, Bool, refl, arith}
use Rattle.std.specs.Prelude.{not, ◌&&◌}
use Rattle.lf_core.specs.Term.{Path, Term, pi}
use Rattle.lf_name.specs.declared.binder.Binder.{Binder}
use Rattle.lf_checker.specs.Structures.{mentions, fields_without}

pub at_field : (S : Path) (n : ℕ) (x : Binder) (A B : Term) → n ≡ 0 → fields_without S n (pi x A B) ≡ (not (mentions S A) && fields_without S 0 B)
at_field S zero x A B e = refl
at_field S (suc n) x A B e = absurd (omega (arith, e))

pub at_parameter : (S : Path) (n : ℕ) (x : Binder) (A B : Term) → 0 < n → fields_without S n (pi x A B) ≡ fields_without S (n - 1) B
at_parameter S zero x A B h = absurd (omega (arith, h))
at_parameter S (suc n) x A B h = let e : suc n - 1 ≡ n = omega arith in rw e refl
