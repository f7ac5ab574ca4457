-- What the code gives, against what the definition answers.
use Rattle.std.specs.Prelude.{◌≡◌, ℕ, ◌≤◌, ◌⊎◌, Option, Some, None, List, [], length, Result, Ok, Err}
use Rattle.lf_base.specs.Outside.{Rises}
use Rattle.lf_core.specs.Suffix.{suffix_of}
use Rattle.lf_core.specs.Term.{Path}
use Rattle.lf_core.specs.declared.constant.Ans.{Ans}
use Rattle.lf_core.specs.declared.constant.Ans.TheVariants as ans
use Rattle.lf_core.specs.declared.constant.ConstInfo.{ConstInfo}
use Rattle.lf_checker.specs.Calls.{Calls}
use Rattle.lf_checker.specs.Run.{Run, ◌>>=◌, gives}
use Rattle.lf_checker.specs.View.{View, find_entry, last_of}
use Rattle.lf_checker.specs.declared.fault.TypeFault.{TypeFault}
use Rattle.lf_elaboration.specs.Injectivity.{Sides, sides_of}
use Rattle.lf_elaboration.specs.Realizers as definition
use Rattle.lf_elaboration.specs.Statement.{Statement}
use Rattle.lf_injectivity.specs.declared.opening.Constructor.{Constructor}
use Rattle.lf_realizers.specs.declared.realizing.Realized.{Realized}
use Rattle.lf_realizers.specs.declared.realizing.Realized.TheVariants.{Makes, MakesNone, Waits, Stopped, NoMemory}
use Rattle.lf_steps.specs.declared.halt.Halt.{Halt}
use Rattle.lf_steps.specs.declared.halt.Halt.TheVariants as halt

-- The definition's answer; a stop and want of memory are free here.
abbrev pub Realizes : definition.Realized → Realized → Type 0
Realizes o (Makes c) = o ≡ definition.makes c
Realizes o MakesNone = o ≡ definition.makes_none
Realizes o (Waits k) = o ≡ definition.waits k
Realizes o Stopped = Unit {0}
Realizes o NoMemory = Unit {0}

-- Stopped only where the count of stops rose.
abbrev pub StopsOnly : Realized → ℕ → ℕ → Type 0
StopsOnly (Makes c) before after = Unit {0}
StopsOnly MakesNone before after = Unit {0}
StopsOnly (Waits k) before after = Unit {0}
StopsOnly Stopped before after = Rises before after
StopsOnly NoMemory before after = Unit {0}

-- The name has more than one part, or no constant has the name of none, which would be its parent.
abbrev pub HasParent : View → Path → Type 0
HasParent V n = (2 ≤ length n) ⊎ (find_entry V.entries [] ≡ None)

-- ---- Devices of the proof

-- The name has one part, or doesn't end in a suffix.
abbrev pub IsNoChild : Path → Type 0
IsNoChild n = (length n ≤ 1) ⊎ (suffix_of (last_of n) ≡ None)

abbrev pub of_sides : Calls → Option Constructor → (Option Sides → Run (Option Statement)) → Run (Option Statement)
of_sides c None m = gives None
of_sides c (Some k) m = do
  s ← sides_of c k.name.now k.levels.now k.ty.now k.ind.now k.index k.params k.fields
  m s

-- The answer of a call as the end within a run.
abbrev pub Returned : {A : Type 0} → Ans A TypeFault → List Path → Result A Halt → Type 0
Returned (ans.Done a) names r = r ≡ Ok a
Returned (ans.Refused e) names (Err (halt.Refused r)) = (r.fault ≡ e) × (r.opened.items ≡ names)
Returned (ans.Refused e) names _ = ⊥
Returned ans.Out names r = r ≡ Err halt.Out
Returned (ans.Need k) names r = r ≡ Err (halt.Need k)
Returned ans.Stopped names r = r ≡ Err halt.Stopped
Returned ans.NoMemory names r = r ≡ Err halt.NoMemory

-- What is told of the end of a run.
abbrev pub Told : Result (Option ConstInfo) Halt → Realized → Type 0
Told (Ok (Some c)) r = r ≡ Makes c
Told (Ok None) r = r ≡ MakesNone
Told (Err (halt.Refused e)) r = r ≡ MakesNone
Told (Err halt.Out) r = r ≡ MakesNone
Told (Err (halt.Need k)) r = r ≡ Waits k
Told (Err halt.Stopped) r = r ≡ Stopped
Told (Err halt.NoMemory) r = r ≡ NoMemory
