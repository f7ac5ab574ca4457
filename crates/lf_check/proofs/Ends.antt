-- The end of a call that has no value answers as the definition does.
use Rattle.std.proofs.Common.{◌≡◌, ℕ, List, [], ◌∙◌, sym}
use Rattle.lf_core.specs.Term.{Path}
use Rattle.lf_core.specs.declared.constant.Ans.{Ans}
use Rattle.lf_core.specs.declared.constant.Ans.TheVariants.{Done, Refused, Out, Need, Stopped, NoMemory}
use Rattle.lf_checker.specs.declared.fault.TypeFault.{TypeFault}
use Rattle.lf_checker.specs.Run.{Answer, done, refused, out, need}
use Rattle.lf_steps.specs.declared.halt.Halt.{Halt}
use Rattle.lf_steps.specs.declared.halt.Halt.TheVariants as halt
use Rattle.lf_steps.specs.Runs.{halted, IsTold}
use Rattle.lf_check.specs.Answers.{Answers, Ended}

same_refusal : {A : Type 0} (e f : TypeFault) (xs ys : List Path) (u v : ℕ) → e ≡ f → u ≡ v → xs ≡ ys
    → ◌≡◌ {A = Answer A} (refused (record { fault = f; opened = ys }) v) (refused (record { fault = e; opened = xs }) u)
same_refusal e f xs ys u v p q r = sym (λ i. refused (record { fault = p i; opened = r i }) (q i))

pub ends_answers : {A : Type 0} (o : Answer A) (h : Halt) (left : ℕ) (a : Ans A TypeFault) (u : ℕ) (names : List Path)
    → (IsTold h → o ≡ halted h left) → Ended h left a u names → Answers o a u names
ends_answers o (halt.Refused r) left (Refused e) u names t k = t tt ∙ same_refusal _ _ _ _ _ _ k.0 k.1.0 k.1.1
ends_answers o (halt.Refused r) left (Done a) u names t k = absurd k
ends_answers o (halt.Refused r) left Out u names t k = absurd k
ends_answers o (halt.Refused r) left (Need j) u names t k = absurd k
ends_answers o (halt.Refused r) left Stopped u names t k = absurd k
ends_answers o (halt.Refused r) left NoMemory u names t k = absurd k
ends_answers o halt.Out left Out u names t k = (t tt, k)
ends_answers o halt.Out left (Done a) u names t k = absurd k
ends_answers o halt.Out left (Refused e) u names t k = absurd k
ends_answers o halt.Out left (Need j) u names t k = absurd k
ends_answers o halt.Out left Stopped u names t k = absurd k
ends_answers o halt.Out left NoMemory u names t k = absurd k
ends_answers o (halt.Need i) left (Need j) u names t k = (t tt ∙ (λ n. need (sym k.0 n)), k.1)
ends_answers o (halt.Need i) left (Done a) u names t k = absurd k
ends_answers o (halt.Need i) left (Refused e) u names t k = absurd k
ends_answers o (halt.Need i) left Out u names t k = absurd k
ends_answers o (halt.Need i) left Stopped u names t k = absurd k
ends_answers o (halt.Need i) left NoMemory u names t k = absurd k
ends_answers o halt.Stopped left Stopped u names t k = k
ends_answers o halt.Stopped left (Done a) u names t k = absurd k
ends_answers o halt.Stopped left (Refused e) u names t k = absurd k
ends_answers o halt.Stopped left Out u names t k = absurd k
ends_answers o halt.Stopped left (Need j) u names t k = absurd k
ends_answers o halt.Stopped left NoMemory u names t k = absurd k
ends_answers o halt.NoMemory left NoMemory u names t k = k
ends_answers o halt.NoMemory left (Done a) u names t k = absurd k
ends_answers o halt.NoMemory left (Refused e) u names t k = absurd k
ends_answers o halt.NoMemory left Out u names t k = absurd k
ends_answers o halt.NoMemory left (Need j) u names t k = absurd k
ends_answers o halt.NoMemory left Stopped u names t k = absurd k
