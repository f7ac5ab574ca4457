-- What is returned answers as the definition does, and nothing stops a call whose count of stops stays.
use Rattle.std.proofs.Common.{◌≡◌, ℕ, sym, ◌∙◌, subst, arith}
use Rattle.std.specs.Prelude.{List, Result, Ok, Err}
use Rattle.lf_base.specs.Outside.{Rises}
use Rattle.lf_core.specs.Term.{Path, Universe, Term}
use Rattle.lf_checker.specs.Checker.{add_header}
use Rattle.lf_checker.specs.View.{View}
use Rattle.lf_core.specs.declared.constant.Ans.{Ans}
use Rattle.lf_core.specs.declared.constant.Ans.TheVariants as ans
use Rattle.lf_check.specs.Answers as check
use Rattle.lf_checker.specs.Run.{Answer, refused}
use Rattle.lf_checker.specs.declared.fault.TypeFault.{TypeFault}
use Rattle.lf_steps.specs.Runs.{Runs, Calm}
use Rattle.lf_steps.specs.declared.halt.Halt.{Halt}
use Rattle.lf_steps.specs.declared.halt.Halt.TheVariants as halt
use Rattle.lf_fields.specs.Returned.{Returned}

same_refusal : {A : Type 0} (e f : TypeFault) (xs ys : List Path) (u : ℕ) → f ≡ e → ys ≡ xs
    → ◌≡◌ {A = Answer A} (refused (record { fault = e; opened = xs }) u) (refused (record { fault = f; opened = ys }) u)
same_refusal e f xs ys u p q = λ i. refused (record { fault = sym p i; opened = sym q i }) u

pub runs : {A : Type 0} (o : Answer A) (a : Ans A TypeFault) (names : List Path) (r : Result A Halt) (u : ℕ)
    → check.Answers o a u names → Returned a names r → Runs o r u
runs o (ans.Done a) names r u h k = subst (λ s. Runs o s u) (sym k) h.0
runs o (ans.Refused e) names (Err (halt.Refused r)) u h k = λ _. h ∙ same_refusal _ _ _ _ u k.0 k.1
runs o (ans.Refused e) names (Ok a) u h k = absurd k
runs o (ans.Refused e) names (Err halt.Out) u h k = absurd k
runs o (ans.Refused e) names (Err (halt.Need j)) u h k = absurd k
runs o (ans.Refused e) names (Err halt.Stopped) u h k = absurd k
runs o (ans.Refused e) names (Err halt.NoMemory) u h k = absurd k
runs o ans.Out names r u h k = subst (λ s. Runs o s u) (sym k) (λ _. h.0)
runs o (ans.Need j) names r u h k = subst (λ s. Runs o s u) (sym k) (λ _. h.0)
runs o ans.Stopped names r u h k = subst (λ s. Runs o s u) (sym k) (λ t. absurd t)
runs o ans.NoMemory names r u h k = subst (λ s. Runs o s u) (sym k) (λ t. absurd t)

pub header_runs : (V W : View) (d e : ℕ) (n : Path) (T : Term) (u v left w : ℕ) (a : Ans Universe TypeFault) (names : List Path) (r : Result Universe Halt)
    → W ≡ V → e ≡ d → v ≡ u → w ≡ left → check.Answers (add_header W e n T v) a left names → Returned a names r → Runs (add_header V d n T u) r w
header_runs V W d e n T u v left w a names r p q s t h k =
    subst (λ o. Runs o r w) (λ i. add_header (p i) (q i) n T (s i))
    (subst (λ x. Runs (add_header W e n T v) r x) (sym t) (runs (add_header W e n T v) a names r left h k))

-- ---- No stop

stands : Rises 0 0 → ⊥
stands h = omega (arith, h)

pub calm : {A : Type 0} (a : Ans A TypeFault) (names : List Path) (r : Result A Halt) → check.StopsOnly a 0 0 → Returned a names r → Calm r
calm (ans.Done a) names r h k = subst (λ s. Calm s) (sym k) tt
calm (ans.Refused e) names (Err (halt.Refused r)) h k = λ e. cc
calm (ans.Refused e) names (Ok a) h k = absurd k
calm (ans.Refused e) names (Err halt.Out) h k = absurd k
calm (ans.Refused e) names (Err (halt.Need j)) h k = absurd k
calm (ans.Refused e) names (Err halt.Stopped) h k = absurd k
calm (ans.Refused e) names (Err halt.NoMemory) h k = absurd k
calm ans.Out names r h k = subst (λ s. Calm s) (sym k) (λ e. cc)
calm (ans.Need j) names r h k = subst (λ s. Calm s) (sym k) (λ e. cc)
calm ans.Stopped names r h k = absurd (stands h)
calm ans.NoMemory names r h k = subst (λ s. Calm s) (sym k) (λ e. cc)
