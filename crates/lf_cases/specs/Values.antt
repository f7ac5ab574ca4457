-- The code's values as the definition's.
use Rattle.lf_elaboration.specs.Induction as induction
use Rattle.lf_cases.specs.declared.target.Target.{Target}

abbrev pub target : Target → induction.Target
target t = record {
  local = t.local;
  name = t.constant.name.now;
  levels = t.constant.levels.now;
  params = t.params.now;
  indices = t.indices.items;
  constructors = t.constructors.now;
  large = t.large;
}
