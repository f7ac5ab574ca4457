-- What a step of compiling returned, against what the definition answers.
use Rattle.std.specs.Prelude.{◌≡◌, ℕ, Option, Some, None, Result, Ok, Err}
use Rattle.lf_base.specs.Outside.{Rises}
use Rattle.lf_checker.specs.Run.{Answer, done}
use Rattle.lf_steps.specs.declared.halt.Halt.{Halt}
use Rattle.lf_steps.specs.declared.halt.Halt.TheVariants.{Stopped}
use Rattle.lf_steps.specs.Runs as steps
use Rattle.lf_equations.specs.Outcome.{Outcome, gets, fault}
use Rattle.lf_equations.specs.declared.fault.EquationFault.{EquationFault}
use Rattle.lf_equations.specs.declared.fault.EquationFault.TheVariants.{NotInductive}
use Rattle.lf_match.specs.declared.ended.Ended.{Ended}
use Rattle.lf_match.specs.declared.ended.Ended.TheVariants.{Fault, Halted}

-- The answer without a value that an end stands for, with the units that are left.
abbrev pub ended : {A : Type 0} → Ended → ℕ → Answer (Outcome A)
ended (Fault e) u = done (fault e) u
ended (Halted h) u = steps.halted h u

-- A stop and want of memory are told by clauses of their own.
abbrev pub IsTold : Ended → Type 0
IsTold (Fault e) = Unit {0}
IsTold (Halted h) = steps.IsTold h

-- What was returned, read by f, and the units that are left.
abbrev pub CompilesAs : {A B : Type 0} → (A → B) → Answer (Outcome B) → Result A Ended → ℕ → Type 0
CompilesAs f o (Ok a) u = o ≡ done (gets (f a)) u
CompilesAs f o (Err e) u = IsTold e → o ≡ ended e u

abbrev pub Compiles : {A : Type 0} → Answer (Outcome A) → Result A Ended → ℕ → Type 0
Compiles o (Ok a) u = o ≡ done (gets a) u
Compiles o (Err e) u = IsTold e → o ≡ ended e u

-- Stopped only where the count of stops rose.
abbrev pub Rose : {A : Type 0} → Result A Ended → ℕ → ℕ → Type 0
Rose (Ok a) before after = Unit {0}
Rose (Err e) before after = e ≡ Halted Stopped → Rises before after

-- No stop.
abbrev pub Calm : {A : Type 0} → Result A Ended → Type 0
Calm (Ok a) = Unit {0}
Calm (Err e) = e ≡ Halted Stopped → ⊥

abbrev pub wanted_result : {A : Type 0} → Option A → Result A Ended
wanted_result (Some a) = Ok a
wanted_result None = Err (Fault NotInductive)

-- A fault is a value, and goes on.
abbrev pub settled_result : {A : Type 0} → Result A Ended → Result (Result A EquationFault) Halt
settled_result (Ok a) = Ok (Ok a)
settled_result (Err (Fault e)) = Ok (Err e)
settled_result (Err (Halted h)) = Err h
