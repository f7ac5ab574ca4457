-- What is returned answers as the definition does, and nothing stops a call whose count of stops stays.
use Rattle.std.proofs.Common.{◌≡◌, ℕ, sym, ◌∙◌, subst, arith}
use Rattle.std.specs.Prelude.{List, Result, Ok, Err}
use Rattle.lf_base.specs.Outside.{Rises}
use Rattle.lf_core.specs.Term.{Path}
use Rattle.lf_core.specs.declared.constant.Ans.{Ans}
use Rattle.lf_core.specs.declared.constant.Ans.TheVariants as ans
use Rattle.lf_check.specs.Answers as check
use Rattle.lf_checker.specs.Run.{Answer, refused}
use Rattle.lf_checker.specs.View.{View}
use Rattle.lf_checker.specs.declared.fault.TypeFault.{TypeFault}
use Rattle.lf_induct.specs.Parts.{answer_map}
use Rattle.lf_steps.specs.Runs.{Runs, RunsAs, Calm}
use Rattle.lf_steps.specs.declared.halt.Halt.{Halt}
use Rattle.lf_steps.specs.declared.halt.Halt.TheVariants as halt
use Rattle.lf_heads.specs.Returned.{Returned}

same_refusal : {A : Type 0} (e f : TypeFault) (xs ys : List Path) (u : ℕ) → f ≡ e → ys ≡ xs
    → ◌≡◌ {A = Answer A} (refused (record { fault = e; opened = xs }) u) (refused (record { fault = f; opened = ys }) u)
same_refusal e f xs ys u p q = λ i. refused (record { fault = sym p i; opened = sym q i }) u

pub runs_as : {A B : Type 0} (f : A → B) (o : Answer B) (a : Ans A TypeFault) (names : List Path) (r : Result A Halt) (u : ℕ)
    → check.Answers o (answer_map f a) u names → Returned a names r → RunsAs f o r u
runs_as f o (ans.Done a) names r u h k = subst (λ s. RunsAs f o s u) (sym k) h.0
runs_as f o (ans.Refused e) names (Err (halt.Refused r)) u h k = λ _. h ∙ same_refusal _ _ _ _ u k.0 k.1
runs_as f o (ans.Refused e) names (Ok a) u h k = absurd k
runs_as f o (ans.Refused e) names (Err halt.Out) u h k = absurd k
runs_as f o (ans.Refused e) names (Err (halt.Need j)) u h k = absurd k
runs_as f o (ans.Refused e) names (Err halt.Stopped) u h k = absurd k
runs_as f o (ans.Refused e) names (Err halt.NoMemory) u h k = absurd k
runs_as f o ans.Out names r u h k = subst (λ s. RunsAs f o s u) (sym k) (λ _. h.0)
runs_as f o (ans.Need j) names r u h k = subst (λ s. RunsAs f o s u) (sym k) (λ _. h.0)
runs_as f o ans.Stopped names r u h k = subst (λ s. RunsAs f o s u) (sym k) (λ t. absurd t)
runs_as f o ans.NoMemory names r u h k = subst (λ s. RunsAs f o s u) (sym k) (λ t. absurd t)

pub runs : {A : Type 0} (o : Answer A) (a : Ans A TypeFault) (names : List Path) (r : Result A Halt) (u : ℕ)
    → check.Answers o a u names → Returned a names r → Runs o r u
runs o (ans.Done a) names r u h k = subst (λ s. Runs o s u) (sym k) h.0
runs o (ans.Refused e) names (Err (halt.Refused r)) u h k = λ _. h ∙ same_refusal _ _ _ _ u k.0 k.1
runs o (ans.Refused e) names (Ok a) u h k = absurd k
runs o (ans.Refused e) names (Err halt.Out) u h k = absurd k
runs o (ans.Refused e) names (Err (halt.Need j)) u h k = absurd k
runs o (ans.Refused e) names (Err halt.Stopped) u h k = absurd k
runs o (ans.Refused e) names (Err halt.NoMemory) u h k = absurd k
runs o ans.Out names r u h k = subst (λ s. Runs o s u) (sym k) (λ _. h.0)
runs o (ans.Need j) names r u h k = subst (λ s. Runs o s u) (sym k) (λ _. h.0)
runs o ans.Stopped names r u h k = subst (λ s. Runs o s u) (sym k) (λ t. absurd t)
runs o ans.NoMemory names r u h k = subst (λ s. Runs o s u) (sym k) (λ t. absurd t)

-- ---- Over the view, the depth and the units of a context

pub over_runs : {A : Type 0} (f : View → ℕ → ℕ → Answer A) (V W : View) (d e u v w x : ℕ) (a : Ans A TypeFault) (names : List Path) (r : Result A Halt)
    → W ≡ V → e ≡ d → v ≡ u → check.Answers (f W e v) a w names → Returned a names r → x ≡ w → Runs (f V d u) r x
over_runs f V W d e u v w x a names r p q s h k t =
    subst (λ o. Runs o r x) (λ i. f (p i) (q i) (s i)) (subst (λ y. Runs (f W e v) r y) (sym t) (runs (f W e v) a names r w h k))

pub over_runs_as : {A B : Type 0} (m : A → B) (f : View → ℕ → ℕ → Answer B) (V W : View) (d e u v w x : ℕ) (a : Ans A TypeFault) (names : List Path)
    (r : Result A Halt) → W ≡ V → e ≡ d → v ≡ u → check.Answers (f W e v) (answer_map m a) w names → Returned a names r → x ≡ w → RunsAs m (f V d u) r x
over_runs_as m f V W d e u v w x a names r p q s h k t =
    subst (λ o. RunsAs m o r x) (λ i. f (p i) (q i) (s i)) (subst (λ y. RunsAs m (f W e v) r y) (sym t) (runs_as m (f W e v) a names r w h k))

-- ---- No stop

stands : Rises 0 0 → ⊥
stands h = omega (arith, h)

pub calm : {A : Type 0} (a : Ans A TypeFault) (names : List Path) (r : Result A Halt) → check.StopsOnly a 0 0 → Returned a names r → Calm r
calm (ans.Done a) names r h k = subst (λ s. Calm s) (sym k) tt
calm (ans.Refused e) names (Err (halt.Refused r)) h k = λ e. cc
calm (ans.Refused e) names (Ok a) h k = absurd k
calm (ans.Refused e) names (Err halt.Out) h k = absurd k
calm (ans.Refused e) names (Err (halt.Need j)) h k = absurd k
calm (ans.Refused e) names (Err halt.Stopped) h k = absurd k
calm (ans.Refused e) names (Err halt.NoMemory) h k = absurd k
calm ans.Out names r h k = subst (λ s. Calm s) (sym k) (λ e. cc)
calm (ans.Need j) names r h k = subst (λ s. Calm s) (sym k) (λ e. cc)
calm ans.Stopped names r h k = absurd (stands h)
calm ans.NoMemory names r h k = subst (λ s. Calm s) (sym k) (λ e. cc)
