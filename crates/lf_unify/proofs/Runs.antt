-- A halt ends what comes after it; a run of the checker is one that changes nothing.
use Rattle.std.proofs.Common.{◌≡◌, ℕ, Bool, length, refl, ap, ◌∙◌}
use Rattle.std.specs.Prelude.{Result, Ok, Err, take}
use Rattle.lf_checker.specs.Run as checker
use Rattle.lf_elaboration.specs.Metavariables.{Changes}
use Rattle.lf_elaboration.specs.Run.{Answer, Run, go_on, gives_up, answered, as_before}
use Rattle.lf_steps.specs.declared.halt.Halt.{Halt}
use Rattle.lf_steps.specs.declared.halt.Halt.TheVariants.{Refused, Out, Need, Stopped, NoMemory}
use Rattle.lf_steps.specs.Runs as steps
use Rattle.lf_unify.specs.Runs.{halted, Runs}

pub ends : {A B : Type 0} (h : Halt) (cs : Changes) (f : A → Run Changes B) → go_on (halted h cs) f ≡ halted h cs
ends (Refused r) cs f = refl
ends Out cs f = refl
ends (Need k) cs f = refl
ends Stopped cs f = refl
ends NoMemory cs f = refl

pub halts : {A B : Type 0} (o : Answer Changes A) (f : A → Run Changes B) (h : Halt) (cs : Changes) → o ≡ halted h cs → go_on o f ≡ halted h cs
halts o f h cs e = ap (λ p. go_on p f) e ∙ ends h cs f

-- What a run of the checker comes to.
kept : {A : Type 0} (h : Halt) (u : ℕ) (cs : Changes) → answered {A = A} (λ e. gives_up) cs (steps.halted h u) ≡ halted h cs
kept (Refused r) u cs = refl
kept Out u cs = refl
kept (Need k) u cs = refl
kept Stopped u cs = refl
kept NoMemory u cs = refl

pub check_ends : {A : Type 0} (o : checker.Answer A) (h : Halt) (u : ℕ) (cs : Changes) → o ≡ steps.halted h u
    → answered (λ e. gives_up) cs o ≡ halted h cs
check_ends o h u cs e = ap (answered (λ e. gives_up) cs) e ∙ kept h u cs

pub check_halts : {A B : Type 0} (o : checker.Answer A) (f : A → Run Changes B) (h : Halt) (u : ℕ) (cs : Changes) → o ≡ steps.halted h u
    → go_on (answered (λ e. gives_up) cs o) f ≡ halted h cs
check_halts o f h u cs e = halts _ f h cs (check_ends o h u cs e)

pub lifts : {A : Type 0} (o : checker.Answer A) (r : Result A Halt) (u : ℕ) (cs : Changes) → steps.Runs o r u
    → Runs (answered (λ e. gives_up) cs o) r u cs
lifts o (Ok a) u cs e = ap (answered (λ e. gives_up) cs) e
lifts o (Err h) u cs e = λ t. check_ends o h u cs (e t)

-- The changes are as before after each answer but true.
taken : (h : Halt) (cs new : Changes) → as_before cs (halted h new) ≡ halted h (take (length cs) new)
taken (Refused r) cs new = refl
taken Out cs new = refl
taken (Need k) cs new = refl
taken Stopped cs new = refl
taken NoMemory cs new = refl

pub taken_back : (o : Answer Changes Bool) (h : Halt) (cs new : Changes) → o ≡ halted h new → as_before cs o ≡ halted h (take (length cs) new)
taken_back o h cs new e = ap (as_before cs) e ∙ taken h cs new
