-- The faults of branches as verdicts.
use Rattle.std.specs.Prelude.{◌≡◌}
use Rattle.lf_branch.specs.Branch.{Verdict, not_owned, reserved, duplicate, waits}
use Rattle.lf_branch.specs.declared.branch.BranchFault.{BranchFault}
use Rattle.lf_branch.specs.declared.branch.BranchFault.TheVariants.{NotOwned, Reserved, Duplicate, Need, NoMemory}

-- The fault is what the verdict says; want of memory may come with any.
abbrev pub Tells : BranchFault → Verdict → Type 0
Tells NotOwned v = v ≡ not_owned
Tells Reserved v = v ≡ reserved
Tells (Duplicate p) v = v ≡ duplicate p
Tells (Need k) v = v ≡ waits k
Tells NoMemory v = Unit {0}
