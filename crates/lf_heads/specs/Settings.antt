-- Settings, and the parts of a command, with any resolution of instances.
use Rattle.std.specs.Prelude.{ℕ, Option, None, List}
use Rattle.lf_core.specs.Term.{Path}
use Rattle.lf_checker.specs.View.{View}
use Rattle.lf_elaboration.specs.Part.{Part}
use Rattle.lf_part.specs.Values.{Meaning}
use Rattle.lf_document.specs.Setting as spec
use Rattle.lf_heads.specs.declared.setting.Setting.{Setting}

abbrev pub setting : {S : Type 0} → Setting S → spec.Setting
setting x = record { view = x.view.now; scope = x.scope.now; position = x.position; budget = x.budget }

-- The definition's part, where instances are found by f.
abbrev pub part_by : Meaning → spec.Setting → View → List Path → Option Path → ℕ → Part
part_by f X V levels inside at = record {
  view = V;
  scope = X.scope;
  levels = levels;
  inside = inside;
  own = None;
  place = at;
  synthesize = f V X.scope;
}
