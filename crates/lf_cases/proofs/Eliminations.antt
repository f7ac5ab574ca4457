-- The step by a recursor: its motive, then its cases, then the step to them.
use Rattle.std.proofs.Common.{◌≡◌, ℕ, Bool, refl, sym, ◌∙◌}
use Rattle.std.specs.Prelude.{Some, ◌++◌, ◌∷◌, []}
use Rattle.lf_core.specs.Term.{Universe, Term, meta}
use Rattle.lf_core.specs.Substitution.{instantiate}
use Rattle.lf_checker.specs.View.{View}
use Rattle.lf_checker.specs.Run.{Answer, done, refused, out, need, Run, go_on, put, made}
use Rattle.lf_elaboration.specs.Forms.{Binding}
use Rattle.lf_elaboration.specs.Induction.{Target, at_motive, by_cases, abstracted, lambdas_like, motive_number, cases_for}
use Rattle.lf_cases.specs.Parts.{motive_over, cases_behind}

assoc : {A B C : Type 0} (o : Answer A) (f : A → Run B) (g : B → Run C) → go_on (go_on o f) g ≡ go_on o (λ x u. go_on (f x u) g)
assoc (done x u) f g = refl
assoc (refused e u) f g = refl
assoc out f g = refl
assoc (need k) f g = refl

pub at_motive_is : (V : View) (goal : Term) (l : Universe) (hyps : Bool) (t : Target) (p : Binding) (u : ℕ)
    → at_motive V goal l hyps t (Some p) u
    ≡ go_on (motive_over t p.domain goal u) (λ M v. go_on (cases_behind V hyps t M p.body v) (by_cases t l M))
at_motive_is V goal l hyps t p u =
    sym (assoc (abstracted (t.indices ++ t.local ∷ []) goal u) (λ G. put (lambdas_like p.domain G))
    (λ M v. go_on (made (instantiate p.body (meta motive_number)) v) (λ T w. go_on (cases_for V hyps M t.constructors T w) (by_cases t l M))))
    ∙ (λ i. go_on (motive_over t p.domain goal u) (λ M v. sym (assoc (made (instantiate p.body (meta motive_number)) v)
    (λ T. cases_for V hyps M t.constructors T) (by_cases t l M)) i))
