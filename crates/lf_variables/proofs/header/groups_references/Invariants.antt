use Rattle.std.proofs.Common.{◌≡◌, ◌++◌, drop}
use Rattle.lf_elaboration.specs.References.{groups_references}
use Rattle.lf_variables.proofs.header.groups_references.Given as goal

abbrev pub invariant-loop-group : goal.invariant-loop-group
invariant-loop-group l = l.all.items ++ groups_references (drop l.group-index l.groups) ≡ l.fn.all.items ++ groups_references l.groups
