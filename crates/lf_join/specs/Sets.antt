-- What a set of names holds.
use Rattle.std.specs.Prelude.{Bool, List}
use Rattle.std.specs.List.{list_any}
use Rattle.lf_core.specs.Term.{Path}
use Rattle.lf_core.specs.Same.{same_path}
use Rattle.lf_join.specs.declared.by_name.ByName.{ByName}

abbrev pub has : List ByName → Path → Bool
has ks n = list_any (λ k. same_path n k.name.now) ks
