-- The domain along the arguments is the definition's.
use Rattle.std.proofs.Common.{◌≡◌, ℕ, List, [], ◌∷◌, refl}
use Rattle.lf_core.specs.Term.{Term, bound, free, meta, sort, const, app, lam, pi, letin, lit, proj}
use Rattle.lf_core.specs.Substitution.{instantiate}
use Rattle.lf_checker.specs.Run.{Run, ◌>>=◌, made}
use Rattle.lf_checker.specs.Infer.{domain_at}
use Rattle.lf_check.specs.Forms.{along}

pub along_is : (has T : Term) (ys : List Term) → along has T ys ≡ domain_at has T ys
along_is has T [] = refl
along_is has (pi x A B) (y ∷ ys) = λ i. made (instantiate B y) >>= (λ D. along_is has D ys i)
along_is has (bound i) (y ∷ ys) = refl
along_is has (free k) (y ∷ ys) = refl
along_is has (meta k) (y ∷ ys) = refl
along_is has (sort l) (y ∷ ys) = refl
along_is has (const n ls) (y ∷ ys) = refl
along_is has (app f a) (y ∷ ys) = refl
along_is has (lam x A b) (y ∷ ys) = refl
along_is has (letin x A v b) (y ∷ ys) = refl
along_is has (lit n) (y ∷ ys) = refl
along_is has (proj S i t) (y ∷ ys) = refl
