-- A halt ends what comes after it, and what goes on from it.
use Rattle.std.proofs.Common.{◌≡◌, ℕ, Option, refl, sym, ap, ◌∙◌, subst}
use Rattle.std.specs.Prelude.{Result, Ok, Err, List}
use Rattle.lf_core.specs.Term.{Path}
use Rattle.lf_checker.specs.declared.fault.TypeFault.{TypeFault}
use Rattle.lf_checker.specs.Run.{Answer, done, refused, out, need, Run, go_on, caught, named_in}
use Rattle.lf_steps.specs.declared.halt.Halt.{Halt}
use Rattle.lf_steps.specs.declared.halt.Halt.TheVariants.{Refused, Out, Need, Stopped, NoMemory}
use Rattle.lf_steps.specs.Runs.{halted, IsTold, Runs, caught_result, NamedResult}

pub ends : {A B : Type 0} (h : Halt) (u : ℕ) (f : A → Run B) → go_on (halted h u) f ≡ halted h u
ends (Refused r) u f = refl
ends Out u f = refl
ends (Need k) u f = refl
ends Stopped u f = refl
ends NoMemory u f = refl

pub halts : {A B : Type 0} (o : Answer A) (f : A → Run B) (h : Halt) (u : ℕ) → o ≡ halted h u → go_on o f ≡ halted h u
halts o f h u e = ap (λ p. go_on p f) e ∙ ends h u f

pub caught_runs : {A : Type 0} (o : Answer A) (r : Result A Halt) (u : ℕ) → Runs o r u → Runs (caught o) (caught_result r) u
caught_runs o (Ok a) u h = ap caught h
caught_runs o (Err (Refused r)) u h = ap caught (h tt)
caught_runs o (Err Out) u h = λ _. ap caught (h tt)
caught_runs o (Err (Need k)) u h = λ _. ap caught (h tt)
caught_runs o (Err Stopped) u h = λ t. absurd t
caught_runs o (Err NoMemory) u h = λ t. absurd t

refused_as : {A : Type 0} (e : TypeFault) (f : TypeFault) (xs ys : List Path) (u : ℕ) → e ≡ f → xs ≡ ys
    → ◌≡◌ {A = Answer A} (refused (record { fault = e; opened = xs }) u) (refused (record { fault = f; opened = ys }) u)
refused_as e f xs ys u p q = λ i. refused (record { fault = p i; opened = q i }) u

pub named_runs : {A : Type 0} (x : Path) (o : Answer A) (r s : Result A Halt) (u : ℕ) → Runs o r u → NamedResult x r s → Runs (named_in x o) s u
named_runs x o (Ok a) s u h n = subst (λ t. Runs (named_in x o) t u) (sym n) (ap (named_in x) h)
named_runs x o (Err (Refused r)) (Ok a) u h n = absurd n
named_runs x o (Err (Refused r)) (Err (Refused s)) u h n = λ _. ap (named_in x) (h tt) ∙ sym (refused_as _ _ _ _ u n.0 n.1)
named_runs x o (Err (Refused r)) (Err NoMemory) u h n = λ t. absurd t
named_runs x o (Err (Refused r)) (Err Out) u h n = absurd n
named_runs x o (Err (Refused r)) (Err (Need k)) u h n = absurd n
named_runs x o (Err (Refused r)) (Err Stopped) u h n = absurd n
named_runs x o (Err Out) s u h n = subst (λ t. Runs (named_in x o) t u) (sym n) (λ _. ap (named_in x) (h tt))
named_runs x o (Err (Need k)) s u h n = subst (λ t. Runs (named_in x o) t u) (sym n) (λ _. ap (named_in x) (h tt))
named_runs x o (Err Stopped) s u h n = subst (λ t. Runs (named_in x o) t u) (sym n) (λ t. absurd t)
named_runs x o (Err NoMemory) s u h n = subst (λ t. Runs (named_in x o) t u) (sym n) (λ t. absurd t)
