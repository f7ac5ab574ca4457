-- What the work on a command returned, with what it has told, against what the definition answers.
use Rattle.std.specs.Prelude.{◌≡◌, ◌<◌, ℕ, Result, Ok, Err, List, [], ◌∷◌, ◌++◌}
use Rattle.lf_core.specs.Term.{Path}
use Rattle.lf_core.specs.declared.constant.ConstInfo.{ConstInfo}
use Rattle.lf_elaboration.specs.Axioms.{names_in}
use Rattle.lf_document.specs.Asking.{names_of_value}
use Rattle.lf_core.specs.declared.constant.TaskKey.{TaskKey}
use Rattle.lf_core.specs.declared.constant.TaskKey.TheVariants.{Head, Body, Real}
use Rattle.lf_checker.specs.View.{base_position}
use Rattle.lf_msg.specs.declared.diagnostic.Diagnostic.{Diagnostic}
use Rattle.lf_msg.specs.declared.message.Message.{Message}
use Rattle.lf_msg.specs.Texts.{message_of}
use Rattle.lf_document.specs.Task as spec
use Rattle.lf_document.specs.Task.{Attempt, done, need, Log}
use Rattle.lf_task.specs.declared.ending.Halted.{Halted}
use Rattle.lf_task.specs.declared.ending.Halted.TheVariants.{Need, Stopped, NoMemory}
use Rattle.lf_task.specs.declared.ending.Judged.{Judged}
use Rattle.lf_task.specs.declared.ending.Judged.TheVariants.{Right, Wrong}
use Rattle.lf_task.specs.declared.ending.PartEnd.{PartEnd}

-- A stop and want of memory are free.
abbrev pub Does : {A : Type 0} → Attempt A → Result A Halted → Log → Type 0
Does o (Ok a) g = o ≡ done a g
Does o (Err (Need k)) g = o ≡ need k
Does o (Err Stopped) g = Unit {0}
Does o (Err NoMemory) g = Unit {0}

-- What was returned, read by f.
abbrev pub DoesAs : {A B : Type 0} → (A → B) → Attempt B → Result A Halted → Log → Type 0
DoesAs f o (Ok a) g = o ≡ done (f a) g
DoesAs f o (Err (Need k)) g = o ≡ need k
DoesAs f o (Err Stopped) g = Unit {0}
DoesAs f o (Err NoMemory) g = Unit {0}

abbrev pub judged : {A : Type 0} → Judged A → spec.Judged A
judged (Right x) = spec.right x
judged (Wrong at d) = spec.wrong at d

abbrev pub ended : {A : Type 0} → PartEnd A → spec.Ended A
ended e = record { value = e.value; erred = e.erred }

abbrev pub told_at : ℕ → Diagnostic → List Message
told_at at d = message_of at d ∷ []

-- The task is one of a text with at most 4,096 commands.
abbrev pub IsPlaced : TaskKey → ℕ → Type 0
IsPlaced (Head i) origin = i < 4096
IsPlaced (Body i) origin = i < 4096
IsPlaced (Real n) origin = (origin ≡ base_position → ⊥) → origin < 4096

-- The names that stand in a constant's type and in its value.
abbrev pub names_of_one : ConstInfo → List Path
names_of_one c = names_in c.ty ++ names_of_value c.value
