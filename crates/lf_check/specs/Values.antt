-- The code's values as the definition's.
use Rattle.std.specs.Prelude.{ℕ, Bool, ◌&&◌, nat_eq, nat_lt, List, length}
use Rattle.lf_core.specs.Term.{Universe, Term}
use Rattle.lf_checker.specs.Calls as calls
use Rattle.lf_checker.specs.Structures.{Structure}
use Rattle.lf_core.specs.Term.{Path}
use Rattle.lf_core.specs.Same.{same_path}
use Rattle.lf_checker.specs.LevelTest.{are_same}
use Rattle.lf_checker.specs.Equal as equal
use Rattle.lf_check.specs.declared.built.Built.{Built}
use Rattle.lf_check.specs.declared.mode.Mode.{Mode}
use Rattle.lf_check.specs.declared.mode.Mode.TheVariants.{Checked, Unchecked}
use Rattle.lf_steps.specs.Values as values
use Rattle.lf_check.specs.Steps as steps
use Rattle.lf_check.specs.declared.step.Step.{Step}
use Rattle.lf_check.specs.declared.step.Step.TheVariants.{Ready, Recurse, Operate, Project}

abbrev pub step : Step → steps.Step
step (Ready p) = steps.ready (values.progress p)
step (Recurse ls r n xs) = steps.recurse ls.now (values.recursor r) n xs.items
step (Operate n x y) = steps.operate n.now x y
step (Project s i t xs) = steps.project s.now i t.now xs.items

abbrev pub mode : Mode → calls.Mode
mode Checked = calls.checked
mode (Unchecked types) = calls.unchecked types.now

-- So many levels and parameters, and a field of this place.
abbrev pub fits : List Universe → List Term → ℕ → Structure → Bool
fits ls ps i s = nat_eq (length ls) s.levels && (nat_eq (length ps) s.params && nat_lt i s.fields)

abbrev pub built : Built → equal.Built
built b = record { name = b.name.now; structure = values.structure b.structure; levels = b.levels.now; arguments = b.arguments.items }

-- The structure of this name at levels that are the same, with as many parameters.
abbrev pub type_fits : equal.Built → Path → List Universe → List Term → Bool
type_fits b n ls ps = same_path n b.name && (nat_eq (length ls) b.structure.levels && (nat_eq (length ps) b.structure.params && are_same b.levels ls))
