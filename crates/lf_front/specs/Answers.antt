-- What code answers for a type.
use Rattle.std.specs.Prelude.{◌≡◌, ◌≤◌, ℕ, List, [], ◌∷◌, All, Result, Ok, Err}
use Rattle.lf_core.specs.Term.{Term}
use Rattle.lf_core.specs.Size.{depth}
use Rattle.lf_rules.specs.Environment.{Environment, Context}
use Rattle.lf_rules.specs.Judgment.{HasType}
use Rattle.lf_core.specs.declared.constant.ConstInfo.{ConstInfo}
use Rattle.lf_core.specs.declared.constant.Ans.{Ans}
use Rattle.lf_core.specs.declared.constant.Ans.TheVariants as ans
use Rattle.lf_front.specs.declared.fault.TypeFault.{TypeFault}
use Rattle.lf_front.specs.declared.fault.Halt.{Halt}
use Rattle.lf_front.specs.declared.fault.Halt.TheVariants as halt

-- Want of memory is the one free answer.
abbrev pub Tells : {A : Type 0} → Result A Halt → Result A Halt → Type 0
Tells (Ok x) o = o ≡ Ok x
Tells (Err (halt.Refused f)) o = o ≡ Err (halt.Refused f)
Tells (Err halt.Out) o = o ≡ Err halt.Out
Tells (Err halt.NoMemory) o = Unit {0}

-- The answer of a call: the definition's, or want of memory.
abbrev pub Answers : Ans Term TypeFault → Result Term Halt → Type 0
Answers (ans.Done A) o = o ≡ Ok A
Answers (ans.Refused f) o = o ≡ Err (halt.Refused f)
Answers ans.Out o = o ≡ Err halt.Out
Answers (ans.Need k) o = ⊥
Answers ans.Stopped o = ⊥
Answers ans.NoMemory o = Unit {0}

-- What is said of the type, where there is one.
abbrev pub IfDone : Ans Term TypeFault → (Term → Type 0) → Type 0
IfDone (ans.Done A) P = P A
IfDone _ P = Unit {0}

-- No constant has a type that is deeper than a term may be.
abbrev pub IsShallow : ConstInfo → Type 0
IsShallow c = depth c.ty ≤ 1024
