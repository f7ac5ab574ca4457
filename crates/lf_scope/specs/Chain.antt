-- Lists that are kept as those before the last item, and that item.
use Rattle.std.specs.Prelude.{Option, Some, None, List, [], ◌∷◌, ◌++◌}
use Rattle.std.specs.Arc.{arc_value}
use Rattle.std.specs.declared.sync.Arc.{Arc}

abbrev pub with_last : {A : Type 0} → List A × A → List A
with_last (xs, x) = xs ++ x ∷ []

abbrev pub chained : {A Z : Type 0} → Option (Arc (List A × A) Z) → List A
chained None = []
chained (Some pair) = with_last (arc_value pair)
