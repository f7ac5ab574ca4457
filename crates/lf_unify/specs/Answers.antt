-- What the call of the unifier answers, with the units that it leaves and the changes.
use Rattle.std.specs.Prelude.{◌≡◌, ℕ, Bool, true, false, Result, Ok, Err, length, take}
use Rattle.lf_core.specs.declared.constant.Ans.{Ans}
use Rattle.lf_core.specs.declared.constant.Ans.TheVariants.{Done, Refused, Out, Need, Stopped, NoMemory}
use Rattle.lf_checker.specs.declared.fault.TypeFault.{TypeFault}
use Rattle.lf_elaboration.specs.Metavariables.{Changes}
use Rattle.lf_elaboration.specs.Run.{Answer, done, out, need}
use Rattle.lf_steps.specs.declared.halt.Halt.{Halt}

-- The definition's answer, which is never a refusal; a stop and want of memory are free here. No units are left after all but a value.
abbrev pub Answers : Answer Changes Bool → Ans Bool TypeFault → ℕ → Changes → Type 0
Answers o (Done r) u cs = o ≡ done r u cs
Answers o (Refused e) u cs = ⊥
Answers o Out u cs = (o ≡ out cs) × (u ≡ 0)
Answers o (Need k) u cs = (o ≡ need k) × (u ≡ 0)
Answers o Stopped u cs = u ≡ 0
Answers o NoMemory u cs = u ≡ 0

-- What was there is there still after true, and nothing else is after false.
abbrev pub After : Bool → Changes → Changes → Type 0
After true old new = take (length old) new ≡ old
After false old new = new ≡ old

-- After each answer without a value the changes are as before.
abbrev pub Keeps : Ans Bool TypeFault → Changes → Changes → Type 0
Keeps (Done r) old new = After r old new
Keeps (Refused e) old new = new ≡ old
Keeps Out old new = new ≡ old
Keeps (Need k) old new = new ≡ old
Keeps Stopped old new = new ≡ old
Keeps NoMemory old new = new ≡ old

-- The same of what a function of the code returned. A device of the proof.
abbrev pub Undoes : Result Bool Halt → Changes → Changes → Type 0
Undoes (Ok r) old new = After r old new
Undoes (Err h) old new = new ≡ old
