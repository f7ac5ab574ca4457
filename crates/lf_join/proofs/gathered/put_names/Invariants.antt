use Rattle.std.proofs.Common.{◌≡◌, ◌++◌, take}
use Rattle.lf_document.specs.Joined.{constant_names}
use Rattle.lf_join.proofs.gathered.put_names.Given as goal

abbrev pub invariant-names : goal.invariant-names
invariant-names l = l.all.items ≡ l.fn.all.items ++ constant_names (take l.constant-index l.constants)
