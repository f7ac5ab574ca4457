-- Abstraction is a run of the checker, which changes nothing.
use Rattle.std.proofs.Common.{◌≡◌, ℕ, List, [], ◌∷◌, refl, ap, ◌∙◌}
use Rattle.lf_core.specs.Term.{Term, lam}
use Rattle.lf_core.specs.Substitution.{abstract}
use Rattle.lf_rules.specs.Environment.{Context}
use Rattle.lf_checker.specs.Run as checker
use Rattle.lf_elaboration.specs.Forms.{as_pi}
use Rattle.lf_elaboration.specs.Metavariables.{Changes}
use Rattle.lf_elaboration.specs.Run.{Run, ◌>>=◌, go_on, gives_up, answered, made, put}
use Rattle.lf_elaboration.specs.Unifier as unifier
use Rattle.lf_elaboration.specs.Unifier.{binder_in, behind, type_in}
use Rattle.lf_unify.specs.Tower.{abstraction}

bound : {A B : Type 0} (o : checker.Answer A) (F : A → Run Changes B) (f : A → checker.Run B) (cs : Changes)
    → ((a : A) (v : ℕ) → F a v cs ≡ answered (λ e. gives_up) cs (f a v))
    → go_on (answered (λ e. gives_up) cs o) F ≡ answered (λ e. gives_up) cs (checker.go_on o f)
bound (checker.done a u) F f cs h = h a u
bound (checker.refused e u) F f cs h = refl
bound checker.out F f cs h = refl
bound (checker.need k) F f cs h = refl

abbrev lambda : Context → Term → ℕ → Term → Run Changes Term
lambda C T k b = do
  d ← made (abstract b k)
  put (lam (binder_in (as_pi T)) (type_in C k) d)

pub abstraction_is : (C : Context) (T : Term) (ks : List ℕ) (t : Term) (u : ℕ) (cs : Changes)
    → unifier.abstraction C T ks t u cs ≡ answered (λ e. gives_up) cs (abstraction C T ks t u)
abstraction_is C T [] t u cs = refl
abstraction_is C T (k ∷ ks) t u cs =
    ap (λ o. go_on o (lambda C T k)) (abstraction_is C (behind T (as_pi T)) ks t u cs)
    ∙ bound (abstraction C (behind T (as_pi T)) ks t u) (lambda C T k) _ cs (λ b v. bound (checker.made (abstract b k) v) _ _ cs (λ d w. refl))
