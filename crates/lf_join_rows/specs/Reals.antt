-- The value of a realized name in a list.
use Rattle.std.specs.Prelude.{Option, Some, None, List, [], ◌∷◌, if◌then◌else◌}
use Rattle.lf_core.specs.Term.{Path}
use Rattle.lf_core.specs.Same.{same_path}
use Rattle.lf_document.specs.TaskValue.{TaskValue}
use Rattle.lf_join_rows.specs.declared.values.Real.{Real}

abbrev pub real_in : List Real → Path → Option TaskValue
real_in [] n = None
real_in (r ∷ rs) n = if same_path r.name n then Some r.value else real_in rs n
