-- What a function of the code returned, with the units that are left and the state, against what the definition answers.
use Rattle.std.specs.Prelude.{◌≡◌, ℕ, Result, Ok, Err}
use Rattle.lf_base.specs.Outside.{Rises}
use Rattle.lf_elaboration.specs.Part.{State}
use Rattle.lf_elaboration.specs.Run.{Answer, done, failed, out, need}
use Rattle.lf_part.specs.declared.ended.Ended.{Ended}
use Rattle.lf_part.specs.declared.ended.Ended.TheVariants.{Failed, Out, Need, Stopped, NoMemory}
use Rattle.lf_part.specs.Says.{message}

-- The answer without a value that an end stands for.
abbrev pub ended : {A : Type 0} → Ended → ℕ → State → Answer State A
ended (Failed m) u s = failed (message m) u s
ended Out u s = out s
ended (Need k) u s = need k
ended Stopped u s = out s
ended NoMemory u s = out s

-- A stop and want of memory are told by clauses of their own.
abbrev pub IsTold : Ended → Type 0
IsTold (Failed m) = Unit {0}
IsTold Out = Unit {0}
IsTold (Need k) = Unit {0}
IsTold Stopped = ⊥
IsTold NoMemory = ⊥

-- The state is the definition's after a value, an error and a spent budget, the units after a value and an error.
abbrev pub Runs : {A : Type 0} → Answer State A → Result A Ended → ℕ → State → Type 0
Runs o (Ok a) u s = o ≡ done a u s
Runs o (Err e) u s = IsTold e → o ≡ ended e u s

-- What was returned, read by f.
abbrev pub RunsAs : {A B : Type 0} → (A → B) → Answer State B → Result A Ended → ℕ → State → Type 0
RunsAs f o (Ok a) u s = o ≡ done (f a) u s
RunsAs f o (Err e) u s = IsTold e → o ≡ ended e u s

-- Stopped only where the count of stops rose.
abbrev pub Rose : {A : Type 0} → Result A Ended → ℕ → ℕ → Type 0
Rose (Ok a) before after = Unit {0}
Rose (Err e) before after = e ≡ Stopped → Rises before after

-- No stop.
abbrev pub Calm : {A : Type 0} → Result A Ended → Type 0
Calm (Ok a) = Unit {0}
Calm (Err e) = e ≡ Stopped → ⊥
