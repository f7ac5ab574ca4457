-- The code's verdicts as the definition's.
use Rattle.lf_branch.specs.Branch as branch
use Rattle.lf_checker.specs.View as view
use Rattle.lf_heads.specs.declared.verdict.There.{There}
use Rattle.lf_heads.specs.declared.verdict.There.TheVariants.{At, Nowhere, NotKnown}
use Rattle.lf_heads.specs.declared.verdict.Verdict.{Verdict}
use Rattle.lf_heads.specs.declared.verdict.Verdict.TheVariants.{NotOwned, Reserved, Duplicate, Waits, Free}

abbrev pub verdict : Verdict → branch.Verdict
verdict NotOwned = branch.not_owned
verdict Reserved = branch.reserved
verdict (Duplicate p) = branch.duplicate p
verdict (Waits k) = branch.waits k
verdict Free = branch.taken

abbrev pub there : There → view.There
there (At p) = view.there p
there Nowhere = view.not_there
there (NotKnown k) = view.not_known k
