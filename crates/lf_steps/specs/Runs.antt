-- What a function of the code returned, against what the definition answers.
use Rattle.std.specs.Prelude.{◌≡◌, ℕ, ◌-◌, nat_eq, nat_lt, if◌then◌else◌, Option, Some, None, List, [], ◌∷◌, Result, Ok, Err}
use Rattle.lf_core.specs.Term.{Path, Term}
use Rattle.lf_base.specs.Outside.{Rises}
use Rattle.lf_checker.specs.declared.fault.TypeFault.{TypeFault}
use Rattle.lf_checker.specs.Run.{Answer, done, refused, out, need, Run, made}
use Rattle.lf_steps.specs.declared.halt.Halt.{Halt}
use Rattle.lf_steps.specs.declared.halt.Refused as halt
use Rattle.lf_steps.specs.declared.halt.Halt.TheVariants.{Refused, Out, Need, Stopped, NoMemory}

-- The answer without a value that a halt stands for, with the units that are left.
abbrev pub halted : {A : Type 0} → Halt → ℕ → Answer A
halted (Refused r) u = refused (record { fault = r.fault; opened = r.opened.items }) u
halted Out u = out
halted (Need k) u = need k
halted Stopped u = out
halted NoMemory u = out

-- A stop and want of memory are told by clauses of their own.
abbrev pub IsTold : Halt → Type 0
IsTold (Refused r) = Unit {0}
IsTold Out = Unit {0}
IsTold (Need k) = Unit {0}
IsTold Stopped = ⊥
IsTold NoMemory = ⊥

-- What was returned, read by f, and the units that are left.
abbrev pub RunsAs : {A B : Type 0} → (A → B) → Answer B → Result A Halt → ℕ → Type 0
RunsAs f o (Ok a) u = o ≡ done (f a) u
RunsAs f o (Err h) u = IsTold h → o ≡ halted h u

abbrev pub Runs : {A : Type 0} → Answer A → Result A Halt → ℕ → Type 0
Runs o (Ok a) u = o ≡ done a u
Runs o (Err h) u = IsTold h → o ≡ halted h u

-- Stopped only where the count of stops rose.
abbrev pub Rose : {A : Type 0} → Result A Halt → ℕ → ℕ → Type 0
Rose (Ok a) before after = Unit {0}
Rose (Err h) before after = h ≡ Stopped → Rises before after

-- No stop.
abbrev pub Calm : {A : Type 0} → Result A Halt → Type 0
Calm (Ok a) = Unit {0}
Calm (Err h) = h ≡ Stopped → ⊥

-- The start of a call where so many nested ones are still allowed: a unit.
unfoldable pub enter : ℕ → Run (Unit {0})
enter d = λ u. if nat_eq d 0 then out else (if nat_lt u 1 then out else done tt (u - 1))

-- A refusal is none, and goes on.
abbrev pub caught_result : {A : Type 0} → Result A Halt → Result (Option A) Halt
caught_result (Ok a) = Ok (Some a)
caught_result (Err (Refused r)) = Ok None
caught_result (Err Out) = Err Out
caught_result (Err (Need k)) = Err (Need k)
caught_result (Err Stopped) = Err Stopped
caught_result (Err NoMemory) = Err NoMemory

-- The second is the first, but for a binder more round a refusal, or no memory.
abbrev pub NamedRefusal : Path → halt.Refused → Result halt.Refused Halt → Type 0
NamedRefusal x r (Ok s) = (s.fault ≡ r.fault) × (s.opened.items ≡ x ∷ r.opened.items)
NamedRefusal x r (Err h) = h ≡ NoMemory

abbrev pub NamedResult : {A : Type 0} → Path → Result A Halt → Result A Halt → Type 0
NamedResult x (Ok a) s = s ≡ Ok a
NamedResult x (Err (Refused r)) (Err (Refused s)) = (s.fault ≡ r.fault) × (s.opened.items ≡ x ∷ r.opened.items)
NamedResult x (Err (Refused r)) (Err NoMemory) = Unit {0}
NamedResult x (Err (Refused r)) s = ⊥
NamedResult x (Err Out) s = s ≡ Err Out
NamedResult x (Err (Need k)) s = s ≡ Err (Need k)
NamedResult x (Err Stopped) s = s ≡ Err Stopped
NamedResult x (Err NoMemory) s = s ≡ Err NoMemory

-- The term, unless it is too deep or has more nodes than there are units, which are as before.
abbrev pub Within : Term → ℕ → ℕ → Result Term Halt → Type 0
Within t u u' (Ok s) = (s ≡ t) × (u' ≡ u)
Within t u u' (Err Out) = made t u ≡ out
Within t u u' (Err (Refused r)) = ⊥
Within t u u' (Err (Need k)) = ⊥
Within t u u' (Err Stopped) = ⊥
Within t u u' (Err NoMemory) = Unit {0}
