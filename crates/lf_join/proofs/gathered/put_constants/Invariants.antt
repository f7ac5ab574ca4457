use Rattle.std.proofs.Common.{◌≡◌, ◌++◌, take}
use Rattle.lf_join.proofs.gathered.put_constants.Given as goal

abbrev pub invariant-constants : goal.invariant-constants
invariant-constants l = l.all.items ≡ l.fn.all.items ++ take l.constant-index l.constants
