use Rattle.std.proofs.Common.{◌≡◌, ◌||◌, take}
use Rattle.lf_core.specs.Term.{Path}
use Rattle.lf_rules.specs.Recursor.{is_among}
use Rattle.lf_join.specs.Sets.{has}
use Rattle.lf_join.proofs.by_name.add_all.Given as goal

abbrev pub invariant-loop-name : goal.invariant-loop-name
invariant-loop-name l = (n : Path) → has l.set.keys n ≡ (has l.fn.set.keys n || is_among n (take l.name-index l.names))
