-- What is returned answers as the definition does.
use Rattle.std.proofs.Common.{◌≡◌, ℕ, refl, ap, sym, ◌∙◌, subst}
use Rattle.std.specs.Prelude.{Option, Some, None, List, Result, Ok, Err}
use Rattle.lf_core.specs.Term.{Path}
use Rattle.lf_core.specs.declared.constant.Ans.{Ans}
use Rattle.lf_core.specs.declared.constant.Ans.TheVariants as ans
use Rattle.lf_core.specs.declared.constant.ConstInfo.{ConstInfo}
use Rattle.lf_check.specs.Answers as check
use Rattle.lf_checker.specs.Run.{Answer, refused}
use Rattle.lf_checker.specs.declared.fault.TypeFault.{TypeFault}
use Rattle.lf_elaboration.specs.Realizers.{realized_by}
use Rattle.lf_steps.specs.Runs.{Runs, Rose}
use Rattle.lf_steps.specs.declared.halt.Halt.{Halt}
use Rattle.lf_steps.specs.declared.halt.Halt.TheVariants as halt
use Rattle.lf_realizers.specs.declared.realizing.Realized.{Realized}
use Rattle.lf_realizers.specs.Values.{Realizes, StopsOnly, Returned, Told}

-- ---- Calls of the kernel

same_refusal : {A : Type 0} (e f : TypeFault) (xs ys : List Path) (u : ℕ) → f ≡ e → ys ≡ xs
    → ◌≡◌ {A = Answer A} (refused (record { fault = e; opened = xs }) u) (refused (record { fault = f; opened = ys }) u)
same_refusal e f xs ys u p q = λ i. refused (record { fault = sym p i; opened = sym q i }) u

pub runs : {A : Type 0} (o : Answer A) (a : Ans A TypeFault) (names : List Path) (r : Result A Halt) (u : ℕ)
    → check.Answers o a u names → Returned a names r → Runs o r u
runs o (ans.Done a) names r u h k = subst (λ s. Runs o s u) (sym k) h.0
runs o (ans.Refused e) names (Err (halt.Refused r)) u h k = λ _. h ∙ same_refusal _ _ _ _ u k.0 k.1
runs o (ans.Refused e) names (Ok a) u h k = absurd k
runs o (ans.Refused e) names (Err halt.Out) u h k = absurd k
runs o (ans.Refused e) names (Err (halt.Need j)) u h k = absurd k
runs o (ans.Refused e) names (Err halt.Stopped) u h k = absurd k
runs o (ans.Refused e) names (Err halt.NoMemory) u h k = absurd k
runs o ans.Out names r u h k = subst (λ s. Runs o s u) (sym k) (λ _. h.0)
runs o (ans.Need j) names r u h k = subst (λ s. Runs o s u) (sym k) (λ _. h.0)
runs o ans.Stopped names r u h k = subst (λ s. Runs o s u) (sym k) (λ t. absurd t)
runs o ans.NoMemory names r u h k = subst (λ s. Runs o s u) (sym k) (λ t. absurd t)

pub rose : {A : Type 0} (a : Ans A TypeFault) (names : List Path) (r : Result A Halt) (m n : ℕ)
    → check.StopsOnly a m n → Returned a names r → Rose r m n
rose (ans.Done a) names r m n h k = subst (λ s. Rose s m n) (sym k) tt
rose (ans.Refused e) names (Err (halt.Refused r)) m n h k = λ e. cc
rose (ans.Refused e) names (Ok a) m n h k = absurd k
rose (ans.Refused e) names (Err halt.Out) m n h k = absurd k
rose (ans.Refused e) names (Err (halt.Need j)) m n h k = absurd k
rose (ans.Refused e) names (Err halt.Stopped) m n h k = absurd k
rose (ans.Refused e) names (Err halt.NoMemory) m n h k = absurd k
rose ans.Out names r m n h k = subst (λ s. Rose s m n) (sym k) (λ e. cc)
rose (ans.Need j) names r m n h k = subst (λ s. Rose s m n) (sym k) (λ e. cc)
rose ans.Stopped names r m n h k = subst (λ s. Rose s m n) (sym k) (λ e. h)
rose ans.NoMemory names r m n h k = subst (λ s. Rose s m n) (sym k) (λ e. cc)

-- ---- The end of a run

pub told_realizes : (o : Answer (Option ConstInfo)) (g : Result (Option ConstInfo) Halt) (u : ℕ) (r : Realized)
    → Runs o g u → Told g r → Realizes (realized_by o) r
told_realizes o (Ok (Some c)) u r h k = subst (λ s. Realizes (realized_by o) s) (sym k) (ap realized_by h)
told_realizes o (Ok None) u r h k = subst (λ s. Realizes (realized_by o) s) (sym k) (ap realized_by h)
told_realizes o (Err (halt.Refused e)) u r h k = subst (λ s. Realizes (realized_by o) s) (sym k) (ap realized_by (h tt))
told_realizes o (Err halt.Out) u r h k = subst (λ s. Realizes (realized_by o) s) (sym k) (ap realized_by (h tt))
told_realizes o (Err (halt.Need j)) u r h k = subst (λ s. Realizes (realized_by o) s) (sym k) (ap realized_by (h tt))
told_realizes o (Err halt.Stopped) u r h k = subst (λ s. Realizes (realized_by o) s) (sym k) tt
told_realizes o (Err halt.NoMemory) u r h k = subst (λ s. Realizes (realized_by o) s) (sym k) tt

pub told_stops : (g : Result (Option ConstInfo) Halt) (r : Realized) (m n : ℕ) → Rose g m n → Told g r → StopsOnly r m n
told_stops (Ok (Some c)) r m n h k = subst (λ s. StopsOnly s m n) (sym k) tt
told_stops (Ok None) r m n h k = subst (λ s. StopsOnly s m n) (sym k) tt
told_stops (Err (halt.Refused e)) r m n h k = subst (λ s. StopsOnly s m n) (sym k) tt
told_stops (Err halt.Out) r m n h k = subst (λ s. StopsOnly s m n) (sym k) tt
told_stops (Err (halt.Need j)) r m n h k = subst (λ s. StopsOnly s m n) (sym k) tt
told_stops (Err halt.Stopped) r m n h k = subst (λ s. StopsOnly s m n) (sym k) (h refl)
told_stops (Err halt.NoMemory) r m n h k = subst (λ s. StopsOnly s m n) (sym k) tt
