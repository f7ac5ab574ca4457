-- What a call may call, by the number of nested ones that are still allowed.
use Rattle.std.proofs.Common.{◌≡◌, ℕ, zero, suc, refl}
use Rattle.lf_checker.specs.Checker as checker
use Rattle.lf_elaboration.specs.Part.{Part}
use Rattle.lf_elaboration.specs.Unifier as unifier
use Rattle.lf_part.specs.Values.{calls}

pub check_is : (P : Part) (d : ℕ) → (calls P d).check ≡ checker.calls P.view d
unfolding calls
check_is P zero = refl
check_is P (suc d) = refl

pub synthesize_is : (P : Part) (d : ℕ) → (calls P d).synthesize ≡ P.synthesize d
unfolding calls
synthesize_is P zero = refl
synthesize_is P (suc d) = refl

pub unify_is : (P : Part) (d : ℕ) → (calls P d).unify ≡ unifier.unify P.view d
unfolding calls
unify_is P zero = refl
unify_is P (suc d) = refl
