-- What a function of the code returned, with the units that are left and the changes, against what the definition answers.
use Rattle.std.specs.Prelude.{◌≡◌, ℕ, Result, Ok, Err}
use Rattle.lf_elaboration.specs.Metavariables.{Changes}
use Rattle.lf_elaboration.specs.Run.{Answer, done, out, need}
use Rattle.lf_steps.specs.declared.halt.Halt.{Halt}
use Rattle.lf_steps.specs.declared.halt.Halt.TheVariants.{Refused, Out, Need, Stopped, NoMemory}
use Rattle.lf_steps.specs.Runs.{IsTold}

-- The answer without a value that a halt stands for. What the checker refuses here is out.
abbrev pub halted : {A : Type 0} → Halt → Changes → Answer Changes A
halted (Refused r) cs = out cs
halted Out cs = out cs
halted (Need k) cs = need k
halted Stopped cs = out cs
halted NoMemory cs = out cs

-- A stop and want of memory are told by clauses of their own.
abbrev pub Runs : {A : Type 0} → Answer Changes A → Result A Halt → ℕ → Changes → Type 0
Runs o (Ok a) u cs = o ≡ done a u cs
Runs o (Err h) u cs = IsTold h → o ≡ halted h cs

-- What was returned, read by f.
abbrev pub RunsAs : {A B : Type 0} → (A → B) → Answer Changes B → Result A Halt → ℕ → Changes → Type 0
RunsAs f o (Ok a) u cs = o ≡ done (f a) u cs
RunsAs f o (Err h) u cs = IsTold h → o ≡ halted h cs
