-- The one proof of a list.
use Rattle.std.proofs.Common.{◌≡◌, ℕ, ◌<◌, List, [], ◌∷◌, ◌++◌, length, refl, arith}
use Rattle.lf_core.specs.Term.{Term}
use Rattle.lf_elaboration.specs.Run.{done, out}
use Rattle.lf_elaboration.specs.Part.{State}
use Rattle.lf_elaboration.specs.Direct.{sole}

pub none : (ps : List Term) (u : ℕ) (s : State) → ps ≡ [] → sole ps u s ≡ out s
none [] u s e = refl
none (p ∷ ps) u s e = cc

pub one : (ps : List Term) (p : Term) (u : ℕ) (s : State) → length ps ≡ 0 → sole (ps ++ p ∷ []) u s ≡ done p u s
one [] p u s e = refl
one (q ∷ ps) p u s e = absurd (omega (arith, e))

pub more : (ps : List Term) (p : Term) (u : ℕ) (s : State) → 0 < length ps → sole (ps ++ p ∷ []) u s ≡ out s
more [] p u s e = absurd (omega (arith, e))
more (q ∷ []) p u s e = refl
more (q ∷ r ∷ ps) p u s e = refl
