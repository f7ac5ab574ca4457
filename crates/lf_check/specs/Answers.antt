-- What a call of the checker answers, with the units that it leaves and the names of opened binders.
use Rattle.std.specs.Prelude.{◌≡◌, ℕ, List, []}
use Rattle.lf_base.specs.Outside.{Rises}
use Rattle.lf_core.specs.Term.{Path}
use Rattle.lf_core.specs.declared.constant.Ans.{Ans}
use Rattle.lf_core.specs.declared.constant.Ans.TheVariants.{Done, Refused, Out, Need, Stopped, NoMemory}
use Rattle.lf_checker.specs.declared.fault.TypeFault.{TypeFault}
use Rattle.lf_checker.specs.Run.{Answer, done, refused, out, need}
use Rattle.lf_steps.specs.declared.halt.Halt.{Halt}
use Rattle.lf_steps.specs.declared.halt.Halt.TheVariants as halt

-- The definition's answer; a stop and want of memory are free here. No units are left after all but a value and a refusal.
abbrev pub Answers : {A : Type 0} → Answer A → Ans A TypeFault → ℕ → List Path → Type 0
Answers o (Done a) u names = (o ≡ done a u) × (names ≡ [])
Answers o (Refused e) u names = o ≡ refused (record { fault = e; opened = names }) u
Answers o Out u names = (o ≡ out) × ((u ≡ 0) × (names ≡ []))
Answers o (Need k) u names = (o ≡ need k) × ((u ≡ 0) × (names ≡ []))
Answers o Stopped u names = (u ≡ 0) × (names ≡ [])
Answers o NoMemory u names = (u ≡ 0) × (names ≡ [])

-- Stopped only where the count of stops rose.
abbrev pub StopsOnly : {A : Type 0} → Ans A TypeFault → ℕ → ℕ → Type 0
StopsOnly (Done a) before after = Unit {0}
StopsOnly (Refused e) before after = Unit {0}
StopsOnly Out before after = Unit {0}
StopsOnly (Need k) before after = Unit {0}
StopsOnly Stopped before after = Rises before after
StopsOnly NoMemory before after = Unit {0}

-- What is told of a halt with these units left. A device of the proof.
abbrev pub Ended : {A : Type 0} → Halt → ℕ → Ans A TypeFault → ℕ → List Path → Type 0
Ended (halt.Refused r) left (Refused e) u names = (e ≡ r.fault) × ((u ≡ left) × (names ≡ r.opened.items))
Ended halt.Out left Out u names = (u ≡ 0) × (names ≡ [])
Ended (halt.Need k) left (Need j) u names = (j ≡ k) × ((u ≡ 0) × (names ≡ []))
Ended halt.Stopped left Stopped u names = (u ≡ 0) × (names ≡ [])
Ended halt.NoMemory left NoMemory u names = (u ≡ 0) × (names ≡ [])
Ended _ left a u names = ⊥
