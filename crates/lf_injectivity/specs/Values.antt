-- The code's values as the definition's.
use Rattle.std.specs.Prelude.{Option, Some, None, List, reverse}
use Rattle.std.specs.Global.{Vec}
use Rattle.lf_core.specs.Term.{Term}
use Rattle.lf_elaboration.specs.Injectivity as definition
use Rattle.lf_injectivity.specs.declared.opening.Sides.{Sides}
use Rattle.lf_injectivity.specs.declared.selecting.RecursorSeen.{RecursorSeen}

abbrev pub sides : Sides → definition.Sides
sides s = record {
  constructor = s.constructor;
  index = s.index;
  levels = s.levels;
  ind = s.ind;
  all = s.all.items;
  params = s.params.items;
  indices = s.indices.items;
  ty = s.ty;
  level = s.level;
  fields = s.fields.items;
  telescope = s.telescope.items;
}

abbrev pub recursor : RecursorSeen → definition.RecursorSeen
recursor r = record { levels = r.levels; ty = r.ty; minors = r.minors }

-- Proofs that were made from the last on.
abbrev pub backwards : Option (Vec Term) → Option (List Term)
backwards None = None
backwards (Some v) = Some (reverse v.items)
