use Rattle.std.proofs.Common.{◌≡◌, drop}
use Rattle.lf_document.specs.Constants.{is_one_marked}
use Rattle.lf_heads.proofs.marks.is_one_marked.Given as goal

abbrev pub invariant-constants : goal.invariant-constants
invariant-constants l = is_one_marked (drop l.constant-index l.constants) ≡ is_one_marked l.constants
